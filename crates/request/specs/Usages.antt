-- Why a command line is no request.
use Rattle.std.specs.Prelude.{◌≡◌, ◌≢◌, ◌⊎◌}
use Rattle.clap.specs.Words.{kind_of}
use Rattle.clap.specs.declared.error.Error.{Error}
use Rattle.clap.specs.declared.error.kind.ErrorKind.TheVariants.{DisplayHelp, DisplayVersion}
use Rattle.clap.specs.declared.error.kind.ErrorKind.TheVariants.{OutOfMemory}

-- the error is a text that was asked for: help, or the version
abbrev pub IsAskedFor : Error → Type 0
IsAskedFor error = (kind_of error ≡ DisplayHelp) ⊎ (kind_of error ≡ DisplayVersion)

-- the error is a refusal: neither a text that was asked for, nor want of memory
abbrev pub IsRefusal : Error → Type 0
IsRefusal error = (kind_of error ≢ DisplayHelp) × (kind_of error ≢ DisplayVersion)
    × (kind_of error ≢ OutOfMemory)

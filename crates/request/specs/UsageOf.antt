-- The usage text of a refusal.
use Rattle.std.specs.Prelude.{◌≡◌}
use Rattle.clap.specs.Words.{kind_of}
use Rattle.clap.specs.declared.error.Error.{Error}
use Rattle.clap.specs.declared.error.kind.ErrorKind.TheVariants.{OutOfMemory}
use Rattle.request.specs.declared.usage.Usage.{Usage}
use Rattle.request.specs.declared.usage.Usage.TheVariants.{Help, Line, Places, NoMemory}
use Rattle.request.specs.Usages.{IsAskedFor, IsRefusal}

-- what the grammar's error says, with its text
abbrev pub IsUsageOf : Error → Usage → Type 0
IsUsageOf error (Help told) = (told ≡ error) × IsAskedFor error
IsUsageOf error (Line told) = (told ≡ error) × IsRefusal error
IsUsageOf error (Places refusal) = ⊥
IsUsageOf error NoMemory = kind_of error ≡ OutOfMemory

-- What a command has done, before it is told.
use Rattle.std.specs.Prelude.{◌≡◌, ◌⊎◌, ℕ, Bool, List, [], Result, Ok, Err}
use Rattle.request.specs.declared.requests.Output.{Output}
use Rattle.request.specs.declared.requests.Request.{Request}
use Rattle.host.specs.World.{World, IsToStay, MayFail, Creating, Writing, one_more}
use Rattle.commands.specs.Lines.{count_line}
use Rattle.commands.specs.Commands.{Outcome}
use Rattle.commands.specs.Outcomes.{Makes, IsStopped, IsUnprinted}
use Rattle.commands.specs.ReadingInputs.{HasChanged}
use Rattle.commands.specs.declared.done.Told.{Told}
use Rattle.commands.specs.declared.done.Told.TheVariants.{Lines, Count}
use Rattle.commands.specs.declared.done.Done.{Done}
use Rattle.commands.specs.declared.fault.Fault.{Fault}
use Rattle.commands.specs.declared.fault.Fault.TheVariants.{Open, Memory}
use Rattle.commands.specs.declared.fault.Stop.{Stop}
use Rattle.commands.specs.declared.fault.Stop.TheVariants.{ByFault, Unprinted}
use Rattle.commands.specs.declared.output.Unwritten.{Unwritten}
use Rattle.commands.specs.declared.output.Unwritten.TheVariants as unwritten
use Rattle.std.specs.Io.KnownBytes.{Appends}

abbrev pub text_of : Told → List ℕ
text_of (Lines text) = text
text_of (Count name count of) = count_line name.now count of.now

-- the request was done, and this is to be printed; its status
pub record HasMade (old new : World) (r : Request) (done : Done) : Type 0 where
  pub outcome : Outcome
  pub makes : Makes old new r outcome
  pub text : outcome.text ≡ text_of done.told
  pub status : outcome.status ≡ done.status
  pub silent : new.printed ≡ old.printed

-- it wasn't, and nothing was printed
pub record HasStopped (old new : World) (r : Request) (fault : Fault) : Type 0 where
  pub stopped : IsStopped old new r [] fault
  pub silent : new.printed ≡ old.printed

-- it wasn't, for a fault that is to be told, or printing has failed
abbrev pub IsUndone : World → World → Request → Stop → Type 0
IsUndone old new r (ByFault fault) =
    (text : List ℕ) × Appends old.printed new.printed text × IsStopped old new r text fault
IsUndone old new r Unprinted = IsUnprinted old new r

-- why an output isn't created
abbrev pub IsUncreated : World → Output → Fault → Type 0
IsUncreated world output (Open name) = (name.now ≡ output.name.now)
    × (MayFail world (Creating output.name.now)
    ⊎ IsToStay world.files output.name.now output.no_clobber)
IsUncreated world output fault = ⊥

-- writing or keeping it has failed, which this fault tells, or there is no memory
abbrev pub IsUnwritten : World → Output → Fault → Fault → Type 0
IsUnwritten world output failure told =
    (told ≡ Memory) ⊎ ((told ≡ failure) × MayFail world (Writing output.name.now))

-- Why what was to be written isn't kept: for the fault of what was written; or as writing or
-- keeping has failed; or, where all was written, as the output isn't created.
abbrev pub IsUncommitted : World → Output → Result ℕ Unwritten → Fault → Fault → Type 0
IsUncommitted world output (Ok count) failure told =
    IsUncreated world output told ⊎ IsUnwritten world output failure told
IsUncommitted world output (Err (unwritten.Fault fault)) failure told = told ≡ fault
IsUncommitted world output (Err unwritten.Writing) failure told =
    IsUnwritten world output failure told

-- why a file wasn't made of some bytes, and whether it was asked for
abbrev pub IsUnkept : World → World → Output → Fault → Fault → Type 0
IsUnkept old new output failure told =
    ((told ≡ Memory) × (new.created ≡ old.created))
    ⊎ (IsUncommitted old output (Ok 0) failure told
    × (new.created ≡ one_more output.name.now output.no_clobber old.created))

-- what was read for it has changed
abbrev pub IsUnwrittenAgain : Bool → List ℕ → Unwritten → Type 0
IsUnwrittenAgain reliable name (unwritten.Fault fault) = HasChanged reliable name fault
IsUnwrittenAgain reliable name unwritten.Writing = ⊥

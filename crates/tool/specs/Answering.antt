-- The answer to a command line.
use Rattle.std.specs.Prelude.{◌≡◌, ◌<◌, ◌⊎◌, ℕ, Bool, true, List, Option, Result, Ok, Err}
use Rattle.std.specs.Prelude.{codes, length, map}
use Rattle.std.specs.Borrow.{Bor}
use Rattle.std.specs.Io.KnownBytes.{Appends}
use Rattle.request.specs.Grammar.{IsOrders}
use Rattle.request.specs.Requests.{Answers}
use Rattle.request.specs.declared.requests.CommandLine.{CommandLine}
use Rattle.request.specs.declared.usage.Usage.{Usage}
use Rattle.request.specs.declared.usage.Usage.TheVariants.{Help, Line, Places, NoMemory}
use Rattle.host.specs.World.{World, KeepsFiles}
use Rattle.commands.specs.Outcomes.{IsRun}

-- what the output for errors had before and has, where it is told, and whether it has failed
pub record Errors : Type 0 where
  pub before : Option (List ℕ)
  pub after : Option (List ℕ)
  pub failed : Bool

abbrev pub errors_of : Option (List ℕ) → Option (List ℕ) → Bool → Errors
errors_of before after failed = record { before = before; after = after; failed = failed }

-- some text was written, which isn't empty
abbrev pub AppendsText : Option (List ℕ) → Option (List ℕ) → Type 0
AppendsText before after = (text : List ℕ) × (0 < length text) × Appends before after text

-- nothing was written there
abbrev pub HasNoErrors : Errors → Type 0
HasNoErrors errors = errors.after ≡ errors.before

-- there is no memory, and this was printed, unless printing has failed
abbrev pub IsRefusedMemory : World → World → ℕ → Type 0
IsRefusedMemory old new status =
    (status ≡ 1) × ((new.failed ≡ true) ⊎ Appends old.printed new.printed (codes "fault memory\n"))

-- of a refused line a text goes to the output for errors, with 2, whether that has failed or not
abbrev pub IsToldRefused : World → World → Errors → ℕ → Type 0
IsToldRefused old new errors status =
    ((status ≡ 2) × (new.printed ≡ old.printed)
    × ((errors.failed ≡ true) ⊎ AppendsText errors.before errors.after))
    ⊎ (HasNoErrors errors × IsRefusedMemory old new status)

-- What is told of a line that makes no request, and the status: help or the version is printed,
-- with 0, or 1 where that has failed; of a refused line it is told why; or there is no memory. No
-- file changes, and none is created.
abbrev pub IsExplained : Usage → World → World → Errors → ℕ → Type 0
IsExplained (Help error) old new errors status =
    HasNoErrors errors
    × (((status ≡ 0) × AppendsText old.printed new.printed) ⊎ ((status ≡ 1) × (new.failed ≡ true))
    ⊎ IsRefusedMemory old new status)
IsExplained (Line error) old new errors status = IsToldRefused old new errors status
IsExplained (Places refusal) old new errors status = IsToldRefused old new errors status
IsExplained NoMemory old new errors status = HasNoErrors errors × IsRefusedMemory old new status

abbrev pub Explains : Usage → World → World → Errors → ℕ → Type 0
Explains usage old new errors status = KeepsFiles old new × IsExplained usage old new errors status

-- what was done with the request that the words make, if they do; else nothing, and why was told
abbrev pub IsOutcomeOf : Result CommandLine Usage → World → World → Errors → ℕ → Type 0
IsOutcomeOf (Ok line) old new errors status =
    IsRun old new line.request status × HasNoErrors errors
IsOutcomeOf (Err usage) old new errors status = Explains usage old new errors status

-- the answer to the words, by what the grammar makes of them
pub record IsAnswer (words : List (Bor (List ℕ))) (old new : World) (errors : Errors)
    (status : ℕ) : Type 0 where
  pub result : Result CommandLine Usage
  pub read : (orders : _) × IsOrders orders × Answers orders (map (λ word. word.now) words) result
  pub outcome : IsOutcomeOf result old new errors status

-- Answers that are no object, and an object that was written.
use Rattle.std.specs.Prelude.{◌≡◌, ℕ, List, length, Option}
use Rattle.std.specs.Io.KnownBytes.{Appends}
use Rattle.reception.specs.declared.scope.Identity.{Identity}
use Rattle.reception.specs.Answer as value
use Rattle.reception.specs.Answer.{IsAnswer}
use Rattle.decoder.specs.declared.answer.Answer.{Answer}
use Rattle.decoder.specs.declared.answer.Answer.TheVariants.{Object}

-- it is no object
abbrev pub IsNoObject : Answer → Type 0
IsNoObject (Object object) = ⊥
IsNoObject answer = Unit {0}

-- the object that these datagrams give was written; its length in bytes
abbrev pub IsWrittenOf : Identity → List (List ℕ) → Option (List ℕ) → Option (List ℕ) → ℕ → Type 0
IsWrittenOf who datagrams before after count =
    (object : List ℕ) × IsAnswer who datagrams (value.Object object) × Appends before after object
    × (count ≡ length object)

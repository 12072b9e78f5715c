-- What is written of an object that is certified, and why it isn't.
use Rattle.std.specs.Prelude.{◌≡◌, ℕ, Bool, List, Option, ⊤}
use Rattle.partition.specs.Fti.{Fti, block_count}
use Rattle.reception.specs.declared.scope.Identity.{Identity}
use Rattle.encoder.specs.Certified.{IsCertifiedTo}
use Rattle.commands.specs.ReadingInputs.{IsObjectBroken}
use Rattle.commands.specs.declared.fault.Fault.TheVariants.{File, Memory}
use Rattle.commands.specs.declared.output.Unwritten.{Unwritten}
use Rattle.commands.specs.declared.output.Unwritten.TheVariants.{Writing, Fault}

-- a certificate was written, of so many blocks
abbrev pub WritesCertificate : List ℕ → Fti → Identity → ℕ → Option (List ℕ) → Option (List ℕ)
    → Type 0
WritesCertificate object f who count old new =
    IsCertifiedTo object f who old new × (count ≡ block_count f)

-- writing has failed, or there is no memory, or the object that is read is broken
abbrev pub IsUncertified : Fti → Option (List ℕ) → Bool → List ℕ → Unwritten → Type 0
IsUncertified f left sound name Writing = ⊤
IsUncertified f left sound name (Fault Memory) = ⊤
IsUncertified f left sound name (Fault (File read)) = IsObjectBroken f left sound name (File read)
IsUncertified f left sound name (Fault fault) = ⊥

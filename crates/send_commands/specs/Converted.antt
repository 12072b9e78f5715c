-- What is written of a certificate that is converted, and why it isn't.
use Rattle.std.specs.Prelude.{◌≡◌, ℕ, Bool, false, Option, List, ⊤}
use Rattle.partition.specs.Fti.{Fti, block_count}
use Rattle.reception.specs.declared.scope.Identity.{Identity}
use Rattle.certificate.specs.Converting.{IsConverted, IsNameFault}
use Rattle.certificate.specs.declared.certificate.CertFault.TheVariants.{Io}
use Rattle.commands.specs.declared.fault.Fault.TheVariants.{Certificate}
use Rattle.commands.specs.declared.output.Unwritten.{Unwritten}
use Rattle.commands.specs.declared.output.Unwritten.TheVariants.{Writing, Fault}

-- it has its name, and so many blocks
abbrev pub Converts : Identity → Option (List ℕ) → Option (List ℕ) → Option (List ℕ) → ℕ → Type 0
Converts who left old new count =
    (f : Fti) × IsConverted who f left old new × (count ≡ block_count f)

-- writing has failed, or what was read is no certificate that can have the name, or the reader has
-- failed
abbrev pub IsUnconverted : Identity → Option (List ℕ) → Bool → Unwritten → Type 0
IsUnconverted who left sound Writing = ⊤
IsUnconverted who left sound (Fault (Certificate e)) =
    ((failed : Bool) × IsNameFault e who left failed) × (e ≡ Io → sound ≡ false)
IsUnconverted who left sound unwritten = ⊥

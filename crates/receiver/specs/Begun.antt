-- The datagram that a receiver begins with.
use Rattle.std.specs.Prelude.{◌≡◌, ℕ, true, List, Ok}
use Rattle.alc.specs.Reading.{Reading, Reads}
use Rattle.alc.specs.declared.reading.Packet.{Packet}
use Rattle.reception.specs.declared.scope.Identity.{Identity}
use Rattle.reception.specs.declared.scope.Scope.{Scope}
use Rattle.reception.specs.declared.scope.Look.TheVariants as look
use Rattle.reception.specs.Reception.{asked, is_carrier}
use Rattle.reception.specs.Step.{IsLook}

-- a carrier of the identity's
abbrev pub IsCarrierOf : Identity → List ℕ → Type 0
IsCarrierOf who datagram =
    (reading : Reading) × Reads datagram reading × (is_carrier who reading ≡ true)

-- and its own FTI has its symbol
pub record Begins (who : Identity) (datagram : List ℕ) : Type 0 where
  pub scope : Scope
  pub packet : Packet
  pub looks : IsLook datagram (asked who) scope (Ok (look.InRange packet))

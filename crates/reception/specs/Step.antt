-- One look at a datagram.
use Rattle.std.specs.Prelude.{◌≡◌, ℕ, if◌then◌else◌, List, Result, Ok, Err}
use Rattle.alc.specs.Reading.{Reading, Reads}
use Rattle.alc.specs.Views.{packet_of}
use Rattle.reception.specs.declared.scope.Scope.{Scope}
use Rattle.alc.specs.declared.fault.PacketFault.{PacketFault}
use Rattle.reception.specs.declared.scope.Look.{Look}
use Rattle.reception.specs.declared.scope.Look.TheVariants as look_at
use Rattle.reception.specs.Reception.{PlaceFault, NoPacket, OtherFti, SymbolLength, Range}
use Rattle.reception.specs.Reception.{Seen, Other, Early, InRange, counts, learned, look}

-- what the code answers to a look, as a value
abbrev pub looked : Result Look PacketFault → Result Seen PlaceFault
looked (Err r) = Err (NoPacket r)
looked (Ok look_at.Other) = Ok Other
looked (Ok look_at.Early) = Ok Early
looked (Ok look_at.OtherFti) = Err OtherFti
looked (Ok look_at.SymbolLength) = Err SymbolLength
looked (Ok look_at.Range) = Err Range
looked (Ok (look_at.InRange p)) = Ok (InRange (packet_of p))

-- what is known after a reading: that of another identity tells nothing
abbrev pub after : Scope → Reading → Scope
after known r = if counts known.identity r then learned known r else known

-- the answer to a look at a datagram, and what is known after it
pub record IsLook (datagram : List ℕ) (old new : Scope)
    (answer : Result Look PacketFault) : Type 0 where
  pub reading : Reading
  pub reads : Reads datagram reading
  pub scope : new ≡ after old reading
  pub told : looked answer ≡ look new reading

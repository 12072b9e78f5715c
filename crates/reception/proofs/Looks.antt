-- What a look at a datagram says of the packet that it hands over.
use Rattle.std.specs.Prelude.{◌≡◌, Bool, true, false, if◌then◌else◌, List, ℕ, length, Option, Some, None, Result, Ok, Err, refl}
use Rattle.std.proofs.Common.{◌∙◌, ap, subst}
use Rattle.partition.specs.Fti.{Fti}
use Rattle.alc.specs.Packet.{Packet}
use Rattle.alc.specs.Views.{packet_of}
use Rattle.alc.specs.Reading.{Reading}
use Rattle.alc.specs.declared.reading.Packet.{Packet as ReadPacket}
use Rattle.reception.specs.declared.scope.Scope.{Scope}
use Rattle.alc.specs.declared.fault.PacketFault.{PacketFault}
use Rattle.reception.specs.declared.scope.Look.{Look}
use Rattle.reception.specs.declared.scope.Look.TheVariants as look_at
use Rattle.std.specs.Option.{option_or}
use Rattle.reception.specs.Reception.{PlaceFault, Seen, Other, InRange, counts, is_of_identity, carried, learned, look, look_by, packet_fault}
use Rattle.reception.specs.Step.{IsLook, looked}
use Rattle.reception.specs.Walks.{MayPass, or_packet}
use Rattle.reception.proofs.Walking.{is_packet, is_early}
use Rattle.reception.proofs.Within.{IsFaultless, faultless}

-- an FTI that is known stays
pub fti_after : (d : List ℕ) (old new : Scope) (answer : _) → IsLook d old new answer → (f : Fti) → old.fti ≡ Some f → new.fti ≡ Some f
fti_after d old new answer h f e =
    ap (λ (s : Scope). s.fti) h.scope
    ∙ (elim (counts old.identity h.reading) as (λ v. (if v then learned old h.reading else old).fti ≡ Some f) [
      | true ↦ ap (λ (o : Option Fti). option_or o (carried h.reading)) e
      | false ↦ e
    ])

-- where one is known, no packet is early
pub never_early : (d : List ℕ) (old new : Scope) → IsLook d old new (Ok look_at.Early) → (f : Fti) → old.fti ≡ Some f → ⊥
never_early d old new h f e = let none = (is_early d old new h).unknown in (cc)

-- and so a walk goes on over each datagram without a fault
pub may_pass : (d : List ℕ) (old new last : Scope) (answer : Result Look PacketFault) → IsLook d old new answer → (f : Fti) → old.fti ≡ Some f → MayPass last (looked answer)
may_pass d old new last (Err e) h f is = tt
may_pass d old new last (Ok look_at.Other) h f is = tt
may_pass d old new last (Ok look_at.OtherFti) h f is = tt
may_pass d old new last (Ok look_at.SymbolLength) h f is = tt
may_pass d old new last (Ok look_at.Range) h f is = tt
may_pass d old new last (Ok look_at.Early) h f is = absurd (never_early d old new h f is)
may_pass d old new last (Ok (look_at.InRange p)) h f is = tt

no_fault : (p : Packet) (o : Option PlaceFault) → ◌≡◌ {A = Result Seen PlaceFault} (Ok (InRange p)) (or_packet p o) → o ≡ None
no_fault p None h = refl
no_fault p (Some e) h = absurd (cc)

by_fti : (p : Packet) (o : Option Fti) → ◌≡◌ {A = Result Seen PlaceFault} (Ok (InRange p)) (look_by o p) → (f : Fti) × (o ≡ Some f) × IsFaultless f p
by_fti p (Some g) h = (g, refl, faultless g p (no_fault p (packet_fault g p) h))
by_fti p None h = absurd (cc)

by_identity : (p : Packet) (v : Bool) (o : Option Fti) → ◌≡◌ {A = Result Seen PlaceFault} (Ok (InRange p)) (if v then look_by o p else Ok Other) → (f : Fti) × (o ≡ Some f) × IsFaultless f p
by_identity p true o h = by_fti p o h
by_identity p false o h = absurd (cc)

-- an FTI is known then, and by it the packet is without a fault
pub known_look : (d : List ℕ) (old new : Scope) (p : ReadPacket) → IsLook d old new (Ok (look_at.InRange p)) → (f : Fti) × (new.fti ≡ Some f) × IsFaultless f (packet_of p)
known_look d old new p h =
    by_identity (packet_of p) (is_of_identity new.identity (packet_of p)) new.fti
    (subst (λ (r : Reading). ◌≡◌ {A = Result Seen PlaceFault} (Ok (InRange (packet_of p))) (look new r)) (is_packet d old new p h) h.told)

-- the packet is without a fault where this FTI holds
pub faultless_look : (d : List ℕ) (old new : Scope) (p : ReadPacket) → IsLook d old new (Ok (look_at.InRange p)) → (f : Fti) → new.fti ≡ Some f → IsFaultless f (packet_of p)
faultless_look d old new p h f e =
    let w = known_look d old new p h in
    let known = w.1 in
    let same : w.0 ≡ f = cc in
    subst (λ (x : Fti). IsFaultless x (packet_of p)) same w.2

-- the symbol has the length that the FTI tells
pub length_look : (d : List ℕ) (old new : Scope) (p : ReadPacket) → IsLook d old new (Ok (look_at.InRange p)) → (f : Fti) → new.fti ≡ Some f → length p.symbol.now ≡ f.symbol_length
length_look d old new p h f e = (faultless_look d old new p h f e).size

-- A look where the FTI is known: nothing is learned.
use Rattle.std.proofs.Common.{◌≡◌, true, false, List, ℕ, Option, Some, None, Result, Err, refl, ap, subst, ◌∙◌}
use Rattle.std.specs.Prelude.{is_some, if◌then◌else◌}
use Rattle.std.specs.Option.{option_or}
use Rattle.partition.specs.Fti.{Fti}
use Rattle.alc.specs.Reading.{Reading}
use Rattle.reception.specs.declared.scope.Scope.{Scope}
use Rattle.alc.specs.declared.fault.PacketFault.{PacketFault}
use Rattle.reception.specs.declared.scope.Look.{Look}
use Rattle.reception.specs.Reception.{Faulty, PlaceFault, counts, carried, learned}
use Rattle.reception.specs.Step.{IsLook, after, looked}
use Rattle.cert.specs.Tallying.{IsRefusedAt}
use Rattle.cert.specs.Verdict.{reason_at}

or_known : (a b : Option Fti) → is_some a ≡ true → option_or a b ≡ a
or_known (Some f) b h = refl
or_known None b h = absurd (cc)

learns_nothing : (scope : Scope) (r : Reading) → is_some scope.fti ≡ true → learned scope r ≡ scope
learns_nothing scope r h = ap (λ (o : Option Fti). record { identity = scope.identity; fti = o }) (or_known scope.fti (carried r) h)

same_after : (scope : Scope) (r : Reading) → is_some scope.fti ≡ true → after scope r ≡ scope
same_after scope r h = elim (counts scope.identity r) as (λ v. (if v then learned scope r else scope) ≡ scope) [
  | true ↦ learns_nothing scope r h
  | false ↦ refl
]

pub look_known : (d : List ℕ) (scope new : Scope) (answer : Result Look PacketFault) → is_some scope.fti ≡ true → IsLook d scope new answer → IsLook d scope scope answer
look_known d scope new answer known h =
    subst (λ (s : Scope). IsLook d scope s answer) (h.scope ∙ same_after scope h.reading known) h

-- a fault is the reason at a place
pub refused_known : (d : List ℕ) (scope new : Scope) (place : ℕ) (answer : Result Look PacketFault) (fault : PlaceFault) → is_some scope.fti ≡ true → IsLook d scope new answer → looked answer ≡ Err fault
    → IsRefusedAt d scope place (reason_at place (Faulty fault))
refused_known d scope new place answer fault known h told = record { answer = answer; is = look_known d scope new answer known h; fault = fault; told = told; reason_is = refl }

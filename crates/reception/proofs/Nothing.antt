-- Without a carrier nothing is wrong but that a datagram is no packet.
use Rattle.std.specs.Prelude.{◌≡◌, ℕ, ◌+◌, Bool, true, false, cond, if◌then◌else◌, List, [], ◌∷◌, ◌++◌, is_some, Option, None, Ok, Err, IsOk, refl}
use Rattle.std.specs.List.{AllByRecursion}
use Rattle.std.proofs.Common.{◌∙◌, sym, ap}
use Rattle.partition.specs.Fti.{Fti}
use Rattle.alc.specs.Reading.{Reading}
use Rattle.reception.specs.declared.scope.Identity.{Identity}
use Rattle.reception.specs.declared.scope.Scope.{Scope}
use Rattle.reception.specs.Symbols.{Symbol}
use Rattle.std.specs.Option.{option_or}
use Rattle.reception.specs.Reception.{Judge, Other, is_of_identity, counted_from, counted, symbol_of, asked, scope_from, wrong_by, look_by, wrong_after}
use Rattle.reception.specs.Walks.{at_place}
use Rattle.reception.specs.Answer.{clash}
use Rattle.reception.specs.Nothing.{TellsEmpty}
use Rattle.reception.proofs.Walk.{identity_stays}
use Rattle.reception.proofs.Stepping.{scope}
use Rattle.reception.proofs.Carriers.{known_is, no_carrier}

module _ {R : Type 0} (judge : Judge R) (who : Identity) where
  early : (i : ℕ) (earlier : List Symbol) (p : _) → is_of_identity who p ≡ true → at_place i (wrong_by judge earlier (if is_of_identity who p then look_by None p else Ok Other)) ≡ None
  early i earlier p mine = ap (λ (v : Bool). at_place i (wrong_by judge earlier (if v then look_by None p else Ok Other))) mine

  packets_from : (i : ℕ) (earlier : List Symbol) (rs : List Reading) → wrong_after judge (scope who None) earlier (counted_from who i rs) ≡ None → AllByRecursion (λ (r : Reading). IsOk r) rs
  packets_from i earlier [] h = tt
  packets_from i earlier (Err e ∷ rs) h = absurd (cc)
  packets_from i earlier (Ok p ∷ rs) h = (
    refl,
    elim (is_of_identity who p) as (λ v. is_of_identity who p ≡ v → wrong_after judge (scope who None) earlier (cond v (record { place = i; reading = Ok p } ∷ []) [] ++ counted_from who (i + 1) rs) ≡ None → AllByRecursion (λ (r : Reading). IsOk r) rs) [
      | false ↦ λ e k. packets_from (i + 1) earlier rs k
      | true ↦ λ e k. packets_from (i + 1) (earlier ++ symbol_of p ∷ []) rs (sym (ap (λ o. option_or o (wrong_after judge (scope who None) (earlier ++ symbol_of p ∷ []) (counted_from who (i + 1) rs))) (early i earlier p e)) ∙ k)
    ] refl h,
  )

  none_from : (i : ℕ) (earlier : List Symbol) (rs : List Reading) → AllByRecursion (λ (r : Reading). IsOk r) rs → wrong_after judge (scope who None) earlier (counted_from who i rs) ≡ None
  none_from i earlier [] h = refl
  none_from i earlier (Err e ∷ rs) h = (let bad = h.0 in absurd (cc))
  none_from i earlier (Ok p ∷ rs) h =
      elim (is_of_identity who p) as (λ v. is_of_identity who p ≡ v → wrong_after judge (scope who None) earlier (cond v (record { place = i; reading = Ok p } ∷ []) [] ++ counted_from who (i + 1) rs) ≡ None) [
        | false ↦ λ e. none_from (i + 1) earlier rs h.1
        | true ↦ λ e. ap (λ o. option_or o (wrong_after judge (scope who None) (earlier ++ symbol_of p ∷ []) (counted_from who (i + 1) rs))) (early i earlier p e) ∙ none_from (i + 1) (earlier ++ symbol_of p ∷ []) rs h.1
      ] refl

unknown : (who : Identity) (rs : List Reading) → (scope_from (asked who) (counted who rs)).fti ≡ None → scope_from (asked who) (counted who rs) ≡ scope who None
unknown who rs h =
    ap (λ (i : Identity). scope i (scope_from (asked who) (counted who rs)).fti) (identity_stays (asked who) (counted who rs)) ∙ ap (λ (o : Option Fti). scope who o) h

pub tells_empty : (who : Identity) (ds : List (List ℕ)) → TellsEmpty who ds
tells_empty who ds = (
  λ h. record {
    readings = h.readings;
    read = h.read;
    packets = packets_from clash who 0 [] h.readings
        (ap (λ (s : Scope). wrong_after clash s [] (counted who h.readings)) (sym (unknown who h.readings h.answers.1)) ∙ h.answers.0);
    none = sym (known_is who h.readings) ∙ ap (λ (o : Option Fti). is_some o) h.answers.1;
  },
  λ h.
      let none = no_carrier who h.readings h.none in
      record {
        readings = h.readings;
        read = h.read;
        answers = (
          ap (λ (s : Scope). wrong_after clash s [] (counted who h.readings)) (unknown who h.readings none) ∙ none_from clash who 0 [] h.readings h.packets,
          none,
        );
      },
)

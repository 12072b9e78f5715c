-- An FTI is known of a list exactly where a carrier is in it.
use Rattle.std.specs.Prelude.{◌≡◌, ℕ, ◌+◌, true, false, ◌&&◌, ◌||◌, cond, List, [], ◌∷◌, ◌++◌, is_some, Option, Some, None, Ok, Err, refl}
use Rattle.std.specs.List.{list_any}
use Rattle.std.proofs.Common.{◌∙◌, ap}
use Rattle.partition.specs.Fti.{Fti}
use Rattle.alc.specs.Reading.{Reading}
use Rattle.reception.specs.declared.scope.Identity.{Identity}
use Rattle.reception.specs.declared.scope.Scope.{Scope}
use Rattle.reception.specs.Reception.{is_of_identity, counted_from, counted, is_carrier, asked, scope_from}
use Rattle.reception.proofs.Stepping.{scope, stays}
use Rattle.reception.proofs.Heard.{known_some}

known_from : (who : Identity) (i : ℕ) (rs : List Reading) → is_some (scope_from (asked who) (counted_from who i rs)).fti ≡ list_any (is_carrier who) rs
known_from who i [] = refl
known_from who i (Err e ∷ rs) = known_from who (i + 1) rs
known_from who i (Ok p ∷ rs) =
    let later = known_from who (i + 1) rs in
    elim (is_of_identity who p) as (λ v. is_some (scope_from (asked who) (cond v (record { place = i; reading = Ok p } ∷ []) [] ++ counted_from who (i + 1) rs)).fti ≡ ((v && is_some p.fti) || list_any (is_carrier who) rs)) [
      | false ↦ later
      | true ↦ by p.fti later
    ]
  where
    by : (o : Option Fti) → is_some (scope_from (asked who) (counted_from who (i + 1) rs)).fti ≡ list_any (is_carrier who) rs
        → is_some (scope_from (scope who o) (counted_from who (i + 1) rs)).fti ≡ (is_some o || list_any (is_carrier who) rs)
    by None later = later
    by (Some f) later = ap (λ (s : Scope). is_some s.fti) (stays who f (counted_from who (i + 1) rs))

-- whether an FTI is known
pub known_is : (who : Identity) (rs : List Reading) → is_some (scope_from (asked who) (counted who rs)).fti ≡ list_any (is_carrier who) rs
known_is who rs = known_from who 0 rs

pub carrier_known : (who : Identity) (rs : List Reading) → list_any (is_carrier who) rs ≡ true → (f : Fti) × ((scope_from (asked who) (counted who rs)).fti ≡ Some f)
carrier_known who rs h = known_some (scope_from (asked who) (counted who rs)).fti (known_is who rs ∙ h)

pub no_carrier : (who : Identity) (rs : List Reading) → list_any (is_carrier who) rs ≡ false → (scope_from (asked who) (counted who rs)).fti ≡ None
no_carrier who rs h = none_of (scope_from (asked who) (counted who rs)).fti (known_is who rs ∙ h)
  where
    none_of : (o : Option Fti) → is_some o ≡ false → o ≡ None
    none_of None k = refl
    none_of (Some f) k = absurd (cc)

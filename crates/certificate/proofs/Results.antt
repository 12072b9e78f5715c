-- Results that are handed on.
use Rattle.std.specs.Prelude.{IfErr, IsErrAnd}
use Rattle.std.proofs.Common.{◌≡◌, Result, Ok, Err, sym, subst}

-- an error that `?` passes on
pub passed_on : {A E : Type 0} (r : Result A E) (e : E) (P : E → Type 0) → IsErrAnd r (λ x. x ≡ e) → P e → IfErr r P
passed_on (Ok a) e P h p = tt
passed_on (Err x) e P h p = subst P (sym h) p

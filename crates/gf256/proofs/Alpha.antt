-- alpha is a root of the field's polynomial.
use Rattle.std.proofs.Common.{ℕ, ◌≡◌, ◌<◌, ◌+◌, get_or, refl, ◌∙◌, ap, arith}
use Rattle.gf256.specs.Arithmetic.{sum_of, doubled, alpha_to}
use Rattle.gf256.specs.Powers.{doublings, doublings_are_powers, one_is_power}

root_test : sum_of 1 (sum_of (get_or (doublings 9 1) 2 0) (sum_of (get_or (doublings 9 1) 3 0) (sum_of (get_or (doublings 9 1) 4 0) (get_or (doublings 9 1) 8 0)))) ≡ 0
unfolding doublings doubled
root_test = refl

-- what stands at place e of the first powers
power_at : (e : ℕ) → e < 9 → get_or (doublings 9 1) e 0 ≡ alpha_to e
power_at e lt =
    ap (λ v. get_or (doublings 9 v) e 0) one_is_power ∙ doublings_are_powers 9 0 e lt
    ∙ (let same : 0 + e ≡ e = omega arith in ap alpha_to same)

pub alpha_is_root : sum_of 1 (sum_of (alpha_to 2) (sum_of (alpha_to 3) (sum_of (alpha_to 4) (alpha_to 8)))) ≡ 0
alpha_is_root = rw (← power_at 2 (omega arith), ← power_at 3 (omega arith), ← power_at 4 (omega arith), ← power_at 8 (omega arith)) root_test

-- The first unit of which five reach a value.
use Rattle.std.proofs.Common.{◌≡◌, ◌<◌, ◌≤◌, ◌*◌, ℕ, zero, suc, List, [], ◌∷◌, length, get_or, refl, arith}
use Rattle.std.proofs.lemmas.Bool.{le-leb, lt-leb}
use Rattle.chart.specs.Scaled.{unit_of}

pub unit_first : (units : List ℕ) (value i : ℕ) → i < length units → ((j : ℕ) → j < i → get_or units j 0 * 5 < value) → value ≤ get_or units i 0 * 5 → unit_of units value ≡ get_or units i 0
unit_first [] value i l less h = absurd (omega (arith, l))
unit_first (u ∷ units) value zero l less h = rw (le-leb value (u * 5) h) refl
unit_first (u ∷ units) value (suc i) l less h =
    let s : u * 5 < value = less 0 (omega arith) in
    rw (lt-leb value (u * 5) s) (unit_first units value i (omega (arith, l)) (λ j g. less (suc j) (omega (arith, g))) h)

-- or the value
pub unit_none : (units : List ℕ) (value : ℕ) → ((j : ℕ) → j < length units → get_or units j 0 * 5 < value) → unit_of units value ≡ value
unit_none [] value less = refl
unit_none (u ∷ units) value less =
    let s : u * 5 < value = less 0 (omega arith) in
    rw (lt-leb value (u * 5) s) (unit_none units value (λ j g. less (suc j) (omega (arith, g))))

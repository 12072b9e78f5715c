-- There are no more different ESIs in a list than members.
use Rattle.std.proofs.Common.{◌≡◌, ◌≤◌, ◌+◌, ◌||◌, ℕ, Bool, true, false, cond, List, [], ◌∷◌, length, refl, arith}
use Rattle.std.specs.Prelude.{◌==◌}
use Rattle.lists.specs.Selection.{is_among}
use Rattle.lists.specs.Below.{below}
use Rattle.losses.specs.Costs.{total, count}
use Rattle.losses.proofs.Copies.{length_count}
use Rattle.losses.proofs.Block.{rising_below}
use Rattle.losses.proofs.Weights.{bits_once}
use Rattle.cert.specs.Twins.{different_esis}
use Rattle.lists.specs.Places.{IsRising}

either_bit : (a b : Bool) → cond (a || b) 1 0 ≤ cond a 1 0 + cond b 1 0
either_bit true b = omega arith
either_bit false b = omega arith

count_either : (p : ℕ) (ps js : List ℕ) → count (is_among (p ∷ ps)) js ≤ total (λ j. cond (p == j) 1 0) js + count (is_among ps) js
count_either p ps [] = omega arith
count_either p ps (j ∷ js) = let e = count_either p ps js in let b = either_bit (p == j) (is_among ps j) in omega (arith, e, b)

count_none : (js : List ℕ) → count (is_among []) js ≡ 0
count_none [] = refl
count_none (j ∷ js) = let e = count_none js in omega (arith, e)

count_few : (ps js : List ℕ) → IsRising js → count (is_among ps) js ≤ length ps
count_few [] js up = let e = count_none js in omega (arith, e)
count_few (p ∷ ps) js up =
    let a = count_either p ps js in
    let b = bits_once p js up in
    let c = count_few ps js up in
    omega (arith, a, b, c)

pub different_few : (arrived_esis : List ℕ) → length (different_esis arrived_esis) ≤ length arrived_esis
different_few arrived_esis =
    let e = length_count (is_among arrived_esis) (below 255) in
    let l = count_few arrived_esis (below 255) (rising_below 255) in
    omega (arith, e, l)

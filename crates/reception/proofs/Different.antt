-- Lists without repeats.
use Rattle.std.specs.Prelude.{◌≢◌, ◌<◌, Bool, true, false, cond, ℕ, zero, suc, List, [], ◌∷◌, ◌++◌, take, filter}
use Rattle.std.specs.List.{AllByRecursion}
use Rattle.std.proofs.Common.{arith}
use Rattle.poly.specs.Polynomial.{AreDifferent}
use Rattle.poly.proofs.Lists.{all_weaker}
use Rattle.lists.specs.Below.{below}
use Rattle.lists.proofs.Lists.{all_filter, all_take, all_append}
use Rattle.lists.proofs.Below.{all_below}

pub different_filter : (t : ℕ → Bool) (xs : List ℕ) → AreDifferent xs → AreDifferent (filter t xs)
different_filter t [] h = tt
different_filter t (x ∷ xs) h =
    elim (t x) as (λ v. AreDifferent (cond v (x ∷ filter t xs) (filter t xs))) [
      | true ↦ (all_weaker _ (λ y. y ≢ x) (λ y g. g.1) _ (all_filter (λ y. y ≢ x) t xs h.0), different_filter t xs h.1)
      | false ↦ different_filter t xs h.1
    ]

pub different_take : (n : ℕ) (xs : List ℕ) → AreDifferent xs → AreDifferent (take n xs)
different_take zero xs h = tt
different_take (suc n) [] h = tt
different_take (suc n) (x ∷ xs) h = (all_take (λ y. y ≢ x) n xs h.0, different_take n xs h.1)

different_append : (xs : List ℕ) (y : ℕ) → AreDifferent xs → AllByRecursion (λ x. x < y) xs → AreDifferent (xs ++ y ∷ [])
different_append [] y h g = (tt, tt)
different_append (x ∷ xs) y h g = (all_append (λ z. z ≢ x) xs (y ∷ []) h.0 ((λ e. omega arith), tt), different_append xs y h.1 g.1)

pub different_below : (n : ℕ) → AreDifferent (below n)
unfolding below
different_below zero = tt
different_below (suc n) = different_append (below n) n (different_below n) (all_below (λ i. i < n) n (λ i h. h))

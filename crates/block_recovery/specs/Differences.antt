-- Values of a polynomial at more points than it has coefficients: each times a weight, they add up
-- to zero.
use Rattle.std.specs.Prelude.{ℕ, ◌==◌, if◌then◌else◌, List, [], ◌∷◌}
use Rattle.gf256.specs.Arithmetic.{sum_of, product, point}
use Rattle.gf256.specs.ProductLaws.{inverse_of}

-- the product of the differences between the point of an ESI and those of the others
abbrev pub differences : List ℕ → ℕ → ℕ
differences [] j = 1
differences (i ∷ esis) j =
    if i == j then differences esis j else product (sum_of (point j) (point i)) (differences esis j)

-- one divided by it
abbrev pub weight : List ℕ → ℕ → ℕ
weight esis j = inverse_of (differences esis j)

-- the sum of the values at these ESIs, each times its weight
abbrev pub weighted_sum : (ℕ → ℕ) → (ℕ → ℕ) → List ℕ → ℕ
weighted_sum weights values [] = 0
weighted_sum weights values (j ∷ esis) =
    sum_of (product (weights j) (values j)) (weighted_sum weights values esis)

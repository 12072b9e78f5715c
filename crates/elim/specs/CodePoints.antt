-- The first points of the code.
use Rattle.std.specs.Prelude.{◌≡◌, ◌<◌, ℕ, List, length, slice_index}
use Rattle.gf256.specs.Arithmetic.{point}

-- the first n points
pub record ArePoints (n : ℕ) (xs : List ℕ) : Type 0 where
  pub count : length xs ≡ n
  pub at : (j : ℕ) → j < n → slice_index xs j ≡ point j

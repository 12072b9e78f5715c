-- Square matrices as functions of places into a field: inverses, and when there is none.
use Rattle.std.specs.Prelude.{◌≡◌, ◌≢◌, ◌<◌, ℕ}
use Rattle.gf256.specs.Sums.{row_times}
use Rattle.elim.specs.Matrices.{AreElements, identity_entry}

-- each is the inverse of the other
pub record AreInverseSquares {F : Type 0} (add mul : F → F → F) (none one : F) (k : ℕ)
    (m w : ℕ → ℕ → F) : Type 0 where
  pub left : (i j : ℕ) → i < k → j < k
      → row_times add mul none (w i) m k j ≡ identity_entry none one i j
  pub right : (i j : ℕ) → i < k → j < k
      → row_times add mul none (m i) w k j ≡ identity_entry none one i j

-- some row that isn't zero, times the matrix, is zero
pub record IsSingularSquare {F : Type 0} (element : F → Type 0) (add mul : F → F → F) (none : F)
    (k : ℕ) (m : ℕ → ℕ → F) : Type 0 where
  pub row : ℕ → F
  pub elements : AreElements element row
  pub place : ℕ
  pub within : place < k
  pub apart : row place ≢ none
  pub gone : (j : ℕ) → j < k → row_times add mul none row m k j ≡ none

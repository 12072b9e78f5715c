-- A generator made of a matrix and the inverse of the square that it begins with.
use Rattle.std.specs.Prelude.{◌≡◌, ◌<◌, ◌≤◌, ℕ, List, length}
use Rattle.std.specs.List.{AllByRecursion}
use Rattle.std.proofs.Common.{◌∙◌, sym, ap, arith}
use Rattle.gf256.specs.FieldLaws.{IsField}
use Rattle.poly.specs.Polynomial.{value_over, power_over, AreDifferent}
use Rattle.gf256.specs.Sums.{row_times}
use Rattle.elim.specs.Matrices.{AreElements, identity_entry}
use Rattle.elim.specs.Vandermonde.{vandermonde_entry}
use Rattle.elim.proofs.Sums.{sum_same}
use Rattle.elim.proofs.RowTimes.{unit_swapped, dot_element, dot_same, dot_picks, picks_dot, row_times_twice}
use Rattle.elim.proofs.Interpolation.{listed, value_is, vandermonde_whole}
use Rattle.elim.specs.Squares.{AreInverseSquares, IsSingularSquare}

module _ {F : Type 0} (element : F → Type 0) (add mul : F → F → F) (none one : F) (field : IsField element add mul none one) where
  -- a square matrix of different points isn't singular
  pub points_regular : (k : ℕ) (points : List F) (m : ℕ → ℕ → F) → length points ≡ k → AllByRecursion element points → AreDifferent points
      → ((i j : ℕ) → i < k → j < k → m i j ≡ vandermonde_entry mul none one points i j) → IsSingularSquare element add mul none k m → ⊥
  points_regular k points m len ep apart same s =
      s.apart (vandermonde_whole element add mul none one field k points len ep apart s.row s.elements
      (λ j lj. sym (dot_same element add mul none one field s.row (λ i. m i j) (λ i. vandermonde_entry mul none one points i j) k (λ i li. same i j li lj)) ∙ s.gone j lj)
      s.place s.within)

  module _ (k n : ℕ) (le : k ≤ n) (v w g : ℕ → ℕ → F) (ev : (i : ℕ) → AreElements element (v i)) (ew : (i : ℕ) → AreElements element (w i))
      (both : AreInverseSquares add mul none one k v w)
      (is : (i j : ℕ) → i < k → j < n → g i j ≡ row_times add mul none (w i) v k j) where
    -- a row times the generator is the row times the inverse, and then times the wide matrix
    times_generator : (s : ℕ → F) (j : ℕ) → AreElements element s → j < n → row_times add mul none s g k j ≡ row_times add mul none (row_times add mul none s w k) v k j
    times_generator s j es lj =
        dot_same element add mul none one field s (λ i. g i j) (λ i. row_times add mul none (w i) v k j) k (λ i li. is i j li lj)
        ∙ sym (row_times_twice element add mul none one field s w v k k j es ew ev)

    pub front_is : (i j : ℕ) → i < k → j < k → g i j ≡ identity_entry none one i j
    front_is i j li lj = is i j li (let lt : j < n = omega arith in lt) ∙ both.left i j li lj

    -- the square times the generator is the wide matrix
    pub generates : (i j : ℕ) → i < k → j < n → row_times add mul none (v i) g k j ≡ v i j
    generates i j li lj =
        times_generator (v i) j (ev i) lj
        ∙ sum_same element add mul none one field (λ m. mul (row_times add mul none (v i) w k m) (v m j)) (λ m. mul (identity_entry none one i m) (v m j)) k
        (λ m lm. ap (λ t. mul t (v m j)) (both.right i m li lm))
        ∙ picks_dot element add mul none one field (λ m. v m j) k i (λ m. ev m j) li

    -- a row times the generator begins with the row
    pub begins_with : (s : ℕ → F) (j : ℕ) → AreElements element s → j < k → row_times add mul none s g k j ≡ s j
    begins_with s j es lj =
        dot_same element add mul none one field s (λ i. g i j) (identity_entry none one j) k (λ i li. front_is i j li lj ∙ unit_swapped element add mul none one field i j)
        ∙ dot_picks element add mul none one field s k j es lj

    -- a row times the generator has the values of a polynomial at the points
    pub value_at : (s : ℕ → F) (j : ℕ) (z : F) → AreElements element s → j < n → element z → ((i : ℕ) → i < k → v i j ≡ power_over mul one z i)
        → row_times add mul none s g k j ≡ value_over add mul none (listed (row_times add mul none s w k) k) z
    value_at s j z es lj ez column =
        times_generator s j es lj
        ∙ dot_same element add mul none one field (row_times add mul none s w k) (λ i. v i j) (power_over mul one z) k column
        ∙ value_is element add mul none one field (row_times add mul none s w k) k z (λ i. dot_element element add mul none one field s (λ m. w m i) k es (λ m. ew m i)) ez

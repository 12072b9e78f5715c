-- A row times the Vandermonde matrix is the values of a polynomial, so it isn't singular where the
-- points are different.
use Rattle.std.specs.Prelude.{◌≡◌, ◌<◌, ℕ, zero, suc, refl, List, [], ◌∷◌, length}
use Rattle.std.specs.List.{AllByRecursion}
use Rattle.std.proofs.Common.{◌∙◌, sym, ap, arith}
use Rattle.gf256.specs.FieldLaws.{IsField}
use Rattle.poly.specs.Polynomial.{value_over, power_over, AreDifferent}
use Rattle.poly.proofs.Roots.{none_from_roots}
use Rattle.poly.proofs.Powers.{power_element}
use Rattle.gf256.specs.Sums.{sum_below, dot, row_times}
use Rattle.elim.specs.Matrices.{AreElements}
use Rattle.elim.specs.Vandermonde.{vandermonde_entry}
use Rattle.elim.proofs.Sums.{sum_element, sum_same, sum_scaled}

-- the first k values
abbrev pub listed : {F : Type 0} → (ℕ → F) → ℕ → List F
listed x zero = []
listed x (suc k) = x 0 ∷ listed (λ i. x (suc i)) k

pub length-listed : {F : Type 0} (x : ℕ → F) (k : ℕ) → length (listed x k) ≡ k
length-listed x zero = refl
length-listed x (suc k) = ap suc (length-listed (λ i. x (suc i)) k)

pub listed_elements : {F : Type 0} (element : F → Type 0) (x : ℕ → F) (k : ℕ) → AreElements element x → AllByRecursion element (listed x k)
listed_elements element x zero ex = tt
listed_elements element x (suc k) ex = (ex 0, listed_elements element (λ i. x (suc i)) k (λ i. ex (suc i)))

pub none_from_listed : {F : Type 0} (none : F) (x : ℕ → F) (k : ℕ) → AllByRecursion (λ c. c ≡ none) (listed x k) → (i : ℕ) → i < k → x i ≡ none
none_from_listed none x zero h i lt = absurd (omega arith)
none_from_listed none x (suc k) h zero lt = h.0
none_from_listed none x (suc k) h (suc i) lt = none_from_listed none (λ n. x (suc n)) k h.1 i (omega arith)

module _ {F : Type 0} (element : F → Type 0) (add mul : F → F → F) (none one : F) (field : IsField element add mul none one) where
  -- a sum from the front
  sum_front : (f : ℕ → F) (n : ℕ) → AreElements element f → sum_below add none f (suc n) ≡ add (f 0) (sum_below add none (λ i. f (suc i)) n)
  sum_front f zero ef = field.add_comm none (f 0) field.zero_element (ef 0)
  sum_front f (suc n) ef =
      let e1 = sum_front f n ef in
      let e2 = field.add_assoc (f 0) (sum_below add none (λ i. f (suc i)) n) (f (suc n)) (ef 0) (sum_element element add mul none one field (λ i. f (suc i)) n (λ i. ef (suc i))) (ef (suc n)) in
      ap (λ v. add v (f (suc n))) e1 ∙ e2

  -- the value of a polynomial is the sum of its coefficients times the powers
  pub value_is : (x : ℕ → F) (k : ℕ) (z : F) → AreElements element x → element z
      → dot add mul none x (power_over mul one z) k ≡ value_over add mul none (listed x k) z
  unfolding value_over power_over
  value_is x zero z ex ez = refl
  value_is x (suc k) z ex ez =
      sum_front (λ i. mul (x i) (power_over mul one z i)) k (λ i. field.mul_element _ _ (ex i) (power_element element add mul none one field z i ez))
      ∙ ap (λ v. add v (sum_below add none (λ i. mul (x (suc i)) (mul z (power_over mul one z i))) k)) (field.mul_one (x 0) (ex 0))
      ∙ ap (add (x 0)) (
      sum_same element add mul none one field (λ i. mul (x (suc i)) (mul z (power_over mul one z i))) (λ i. mul z (mul (x (suc i)) (power_over mul one z i))) k
      (λ i lt. let e = power_element element add mul none one field z i ez in
      let e1 = field.mul_assoc (x (suc i)) z (power_over mul one z i) (ex (suc i)) ez e in
      let e2 = field.mul_comm (x (suc i)) z (ex (suc i)) ez in
      let e3 = field.mul_assoc z (x (suc i)) (power_over mul one z i) ez (ex (suc i)) e in
      (cc))
      ∙ sum_scaled element add mul none one field z (λ i. mul (x (suc i)) (power_over mul one z i)) k ez (λ i. field.mul_element _ _ (ex (suc i)) (power_element element add mul none one field z i ez))
      ∙ ap (mul z) (value_is (λ i. x (suc i)) k z (λ i. ex (suc i)) ez))

  roots_all : (x : ℕ → F) (k n : ℕ) (points : List F) → AreElements element x → AllByRecursion element points → length points ≡ n
      → ((j : ℕ) → j < n → row_times add mul none x (vandermonde_entry mul none one points) k j ≡ none)
      → AllByRecursion (λ z. value_over add mul none (listed x k) z ≡ none) points
  roots_all x k n [] ex ep len gone = tt
  roots_all x k zero (z ∷ zs) ex ep len gone = absurd (omega arith)
  roots_all x k (suc n) (z ∷ zs) ex ep len gone =
      (sym (value_is x k z ex ep.0) ∙ gone 0 (omega arith), roots_all x k n zs ex ep.1 (omega arith) (λ j lt. gone (suc j) (omega arith)))

  -- a row that the square matrix of different points sends to zero is zero
  pub vandermonde_whole : (k : ℕ) (points : List F) → length points ≡ k → AllByRecursion element points → AreDifferent points
      → (x : ℕ → F) → AreElements element x → ((j : ℕ) → j < k → row_times add mul none x (vandermonde_entry mul none one points) k j ≡ none)
      → (i : ℕ) → i < k → x i ≡ none
  vandermonde_whole k points len ep apart x ex gone =
      none_from_listed none x k (none_from_roots element add mul none one field points (listed x k) (length-listed x k ∙ sym len) (listed_elements element x k ex) ep apart
      (roots_all x k k points ex ep len gone))

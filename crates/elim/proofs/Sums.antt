-- Sums of the first n values of a function into a field.
use Rattle.std.specs.Prelude.{◌≡◌, ◌≢◌, ◌<◌, ℕ, zero, suc, refl}
use Rattle.std.proofs.Common.{◌∙◌, sym, ap, arith, inl, inr}
use Rattle.std.proofs.lemmas.Bool.{cases_eq}
use Rattle.gf256.specs.FieldLaws.{IsField}
use Rattle.poly.proofs.Roots.{mul_zero, regrouped}
use Rattle.gf256.specs.Sums.{sum_below}
use Rattle.elim.specs.Matrices.{AreElements}

module _ {F : Type 0} (element : F → Type 0) (add mul : F → F → F) (none one : F) (field : IsField element add mul none one) where
  pub sum_element : (f : ℕ → F) (n : ℕ) → AreElements element f → element (sum_below add none f n)
  sum_element f zero ef = field.zero_element
  sum_element f (suc n) ef = field.add_element _ _ (sum_element f n ef) (ef n)

  pub sum_same : (f g : ℕ → F) (n : ℕ) → ((i : ℕ) → i < n → f i ≡ g i) → sum_below add none f n ≡ sum_below add none g n
  sum_same f g zero h = refl
  sum_same f g (suc n) h =
      let e1 = sum_same f g n (λ i lt. h i (omega arith)) in
      let e2 = h n (omega arith) in
      (cc)

  pub sum_of_sums : (f g : ℕ → F) (n : ℕ) → AreElements element f → AreElements element g
      → sum_below add none (λ i. add (f i) (g i)) n ≡ add (sum_below add none f n) (sum_below add none g n)
  sum_of_sums f g zero ef eg = sym (field.add_zero none field.zero_element)
  sum_of_sums f g (suc n) ef eg =
      let e1 = sum_of_sums f g n ef eg in
      let e2 = regrouped element add mul none one field (sum_below add none f n) (sum_below add none g n) (f n) (g n) (sum_element f n ef) (sum_element g n eg) (ef n) (eg n) in
      ap (λ v. add v (add (f n) (g n))) e1 ∙ e2

  pub sum_scaled : (c : F) (f : ℕ → F) (n : ℕ) → element c → AreElements element f
      → sum_below add none (λ i. mul c (f i)) n ≡ mul c (sum_below add none f n)
  sum_scaled c f zero ec ef = sym (mul_zero element add mul none one field c ec)
  sum_scaled c f (suc n) ec ef =
      ap (λ v. add v (mul c (f n))) (sum_scaled c f n ec ef) ∙ sym (field.mul_add c _ (f n) ec (sum_element f n ef) (ef n))

  pub sum_none : (f : ℕ → F) (n : ℕ) → ((i : ℕ) → i < n → f i ≡ none) → sum_below add none f n ≡ none
  sum_none f zero h = refl
  sum_none f (suc n) h =
      let e1 = sum_none f n (λ i lt. h i (omega arith)) in
      let e2 = h n (omega arith) in
      let e3 = field.add_zero none field.zero_element in
      (cc)

  -- all values but one are nothing
  pub sum_one_place : (f : ℕ → F) (n k : ℕ) → k < n → element (f k) → ((i : ℕ) → i < n → i ≢ k → f i ≡ none) → sum_below add none f n ≡ f k
  sum_one_place f zero k lt ek h = absurd (omega arith)
  sum_one_place f (suc n) k lt ek h = elim (cases_eq n k) [
    | inl e ↦ (let e1 = sum_none f n (λ i below. h i (omega arith) (omega arith)) in
        let e2 = field.add_comm none (f k) field.zero_element ek in
        let e3 = field.add_zero (f k) ek in
        let e4 : f n ≡ f k = ap f e in
        (cc))
    | inr ne ↦ (let below : k < n = omega arith in
        let e1 = sum_one_place f n k below ek (λ i b. h i (omega arith)) in
        let e2 = h n (omega arith) ne in
        let e3 = field.add_zero (f k) ek in
        (cc))
  ]

  pub sums_swapped : (f : ℕ → ℕ → F) (n m : ℕ) → ((i j : ℕ) → element (f i j))
      → sum_below add none (λ i. sum_below add none (f i) m) n ≡ sum_below add none (λ j. sum_below add none (λ i. f i j) n) m
  sums_swapped f zero m ef = sym (sum_none (λ j. none) m (λ i lt. refl))
  sums_swapped f (suc n) m ef =
      ap (λ v. add v (sum_below add none (f n) m)) (sums_swapped f n m ef)
      ∙ sym (sum_of_sums (λ j. sum_below add none (λ i. f i j) n) (f n) m (λ j. sum_element (λ i. f i j) n (λ i. ef i j)) (ef n))

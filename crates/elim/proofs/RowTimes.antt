-- A row times a matrix.
use Rattle.std.specs.Prelude.{◌≡◌, ◌≢◌, ◌<◌, ℕ, refl}
use Rattle.std.proofs.Common.{◌∙◌, sym, ap, arith, inl, inr}
use Rattle.std.proofs.lemmas.Bool.{cases_eq}
use Rattle.std.proofs.lemmas.Bool.Decides.{nat_tests}
use Rattle.gf256.specs.FieldLaws.{IsField}
use Rattle.poly.proofs.Roots.{mul_zero}
use Rattle.gf256.specs.Sums.{sum_below, dot, row_times}
use Rattle.elim.specs.Matrices.{AreElements, identity_entry}
use Rattle.elim.proofs.Sums.{sum_element, sum_same, sum_of_sums, sum_scaled, sum_none, sum_one_place, sums_swapped}
use Rattle.elim.specs.Squares.{AreInverseSquares}

pub unit_here : {F : Type 0} (none one : F) (i j : ℕ) → i ≡ j → identity_entry none one i j ≡ one
unit_here none one i j e = grind (arith, nat_tests)

pub unit_there : {F : Type 0} (none one : F) (i j : ℕ) → i ≢ j → identity_entry none one i j ≡ none
unit_there none one i j e = grind (arith, nat_tests)

module _ {F : Type 0} (element : F → Type 0) (add mul : F → F → F) (none one : F) (field : IsField element add mul none one) where
  pub zero_mul : (a : F) → element a → mul none a ≡ none
  zero_mul a ea = field.mul_comm none a field.zero_element ea ∙ mul_zero element add mul none one field a ea

  pub unit_element : (i : ℕ) → AreElements element (identity_entry none one i)
  unit_element i j = elim (cases_eq i j) [
    | inl e ↦ rw (unit_here none one i j e) field.one_element
    | inr ne ↦ rw (unit_there none one i j ne) field.zero_element
  ]

  pub unit_swapped : (i j : ℕ) → identity_entry none one i j ≡ identity_entry none one j i
  unit_swapped i j = elim (cases_eq i j) [
    | inl e ↦ unit_here none one i j e ∙ sym (unit_here none one j i (sym e))
    | inr ne ↦ unit_there none one i j ne ∙ sym (unit_there none one j i (λ h. ne (sym h)))
  ]

  pub dot_element : (a b : ℕ → F) (n : ℕ) → AreElements element a → AreElements element b → element (dot add mul none a b n)
  dot_element a b n ea eb = sum_element element add mul none one field (λ i. mul (a i) (b i)) n (λ i. field.mul_element _ _ (ea i) (eb i))

  pub dot_same : (a b c : ℕ → F) (n : ℕ) → ((i : ℕ) → i < n → b i ≡ c i) → dot add mul none a b n ≡ dot add mul none a c n
  dot_same a b c n h = sum_same element add mul none one field (λ i. mul (a i) (b i)) (λ i. mul (a i) (c i)) n (λ i lt. ap (mul (a i)) (h i lt))

  pub dot_scaled : (v a : ℕ → F) (c : F) (n : ℕ) → AreElements element v → AreElements element a → element c
      → dot add mul none v (λ i. mul c (a i)) n ≡ mul c (dot add mul none v a n)
  dot_scaled v a c n ev ea ec =
      sum_same element add mul none one field (λ i. mul (v i) (mul c (a i))) (λ i. mul c (mul (v i) (a i))) n
      (λ i lt. let e1 = field.mul_assoc (v i) c (a i) (ev i) ec (ea i) in
      let e2 = field.mul_comm (v i) c (ev i) ec in
      let e3 = field.mul_assoc c (v i) (a i) ec (ev i) (ea i) in
      (cc))
      ∙ sum_scaled element add mul none one field c (λ i. mul (v i) (a i)) n ec (λ i. field.mul_element _ _ (ev i) (ea i))

  pub dot_of_sums : (v a b : ℕ → F) (n : ℕ) → AreElements element v → AreElements element a → AreElements element b
      → dot add mul none v (λ i. add (a i) (b i)) n ≡ add (dot add mul none v a n) (dot add mul none v b n)
  dot_of_sums v a b n ev ea eb =
      sum_same element add mul none one field (λ i. mul (v i) (add (a i) (b i))) (λ i. add (mul (v i) (a i)) (mul (v i) (b i))) n
      (λ i lt. field.mul_add (v i) (a i) (b i) (ev i) (ea i) (eb i))
      ∙ sum_of_sums element add mul none one field (λ i. mul (v i) (a i)) (λ i. mul (v i) (b i)) n
      (λ i. field.mul_element _ _ (ev i) (ea i)) (λ i. field.mul_element _ _ (ev i) (eb i))

  pub dot_swapped : (a b : ℕ → F) (n : ℕ) → AreElements element a → AreElements element b
      → dot add mul none a b n ≡ dot add mul none b a n
  dot_swapped a b n ea eb =
      sum_same element add mul none one field (λ i. mul (a i) (b i)) (λ i. mul (b i) (a i)) n (λ i lt. field.mul_comm (a i) (b i) (ea i) (eb i))

  pub dot_none : (b : ℕ → F) (n : ℕ) → AreElements element b → dot add mul none (λ _. none) b n ≡ none
  dot_none b n eb = sum_none element add mul none one field (λ i. mul none (b i)) n (λ i lt. zero_mul (b i) (eb i))

  -- a row of the identity picks a place
  pub dot_picks : (a : ℕ → F) (n k : ℕ) → AreElements element a → k < n → dot add mul none a (identity_entry none one k) n ≡ a k
  dot_picks a n k ea lt =
      sum_one_place element add mul none one field (λ i. mul (a i) (identity_entry none one k i)) n k lt
      (field.mul_element _ _ (ea k) (unit_element k k))
      (λ i below ne. ap (mul (a i)) (unit_there none one k i (λ h. ne (sym h))) ∙ mul_zero element add mul none one field (a i) (ea i))
      ∙ ap (mul (a k)) (unit_here none one k k refl) ∙ field.mul_one (a k) (ea k)

  pub picks_dot : (a : ℕ → F) (n k : ℕ) → AreElements element a → k < n → dot add mul none (identity_entry none one k) a n ≡ a k
  picks_dot a n k ea lt = dot_swapped (identity_entry none one k) a n (unit_element k) ea ∙ dot_picks a n k ea lt

  -- a row times one matrix and then another is the row times their product
  pub row_times_twice : (x : ℕ → F) (a b : ℕ → ℕ → F) (n m j : ℕ) → AreElements element x → ((i : ℕ) → AreElements element (a i)) → ((i : ℕ) → AreElements element (b i))
      → row_times add mul none (row_times add mul none x a n) b m j ≡ row_times add mul none x (λ i. row_times add mul none (a i) b m) n j
  row_times_twice x a b n m j ex ea eb =
      sum_same element add mul none one field
      (λ l. mul (row_times add mul none x a n l) (b l j))
      (λ l. sum_below add none (λ i. mul (x i) (mul (a i l) (b l j))) n) m
      (λ l lt. field.mul_comm _ (b l j) (dot_element x (λ i. a i l) n ex (λ i. ea i l)) (eb l j)
      ∙ sym (dot_scaled x (λ i. a i l) (b l j) n ex (λ i. ea i l) (eb l j))
      ∙ dot_same x (λ i. mul (b l j) (a i l)) (λ i. mul (a i l) (b l j)) n (λ i below. field.mul_comm (b l j) (a i l) (eb l j) (ea i l)))
      ∙ sums_swapped element add mul none one field (λ l i. mul (x i) (mul (a i l) (b l j))) m n (λ l i. field.mul_element _ _ (ex i) (field.mul_element _ _ (ea i l) (eb l j)))
      ∙ sum_same element add mul none one field
      (λ i. sum_below add none (λ l. mul (x i) (mul (a i l) (b l j))) m)
      (λ i. mul (x i) (row_times add mul none (a i) b m j)) n
      (λ i lt. sum_scaled element add mul none one field (x i) (λ l. mul (a i l) (b l j)) m (ex i) (λ l. field.mul_element _ _ (ea i l) (eb l j)))

  -- a matrix with an inverse sends no row but zero to zero
  pub not_singular : (k : ℕ) (m w : ℕ → ℕ → F) → ((i : ℕ) → AreElements element (m i)) → ((i : ℕ) → AreElements element (w i)) → AreInverseSquares add mul none one k m w
      → (x : ℕ → F) → AreElements element x → ((j : ℕ) → j < k → row_times add mul none x m k j ≡ none) → (i : ℕ) → i < k → x i ≡ none
  not_singular k m w em ew both x ex gone i lt =
      sym (dot_picks x k i ex lt)
      ∙ dot_same x (identity_entry none one i) (λ l. row_times add mul none (m l) w k i) k (λ l below. unit_swapped i l ∙ sym (both.right l i below lt))
      ∙ sym (row_times_twice x m w k k i ex em ew)
      ∙ sum_same element add mul none one field (λ l. mul (row_times add mul none x m k l) (w l i)) (λ l. mul none (w l i)) k (λ l below. ap (λ v. mul v (w l i)) (gone l below))
      ∙ dot_none (λ l. w l i) k (λ l. ew l i)

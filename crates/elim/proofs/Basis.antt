-- Lagrange's polynomials: rows of their coefficients are the inverse of V.
use Rattle.std.specs.Prelude.{◌==◌}
use Rattle.std.proofs.Common.{◌≡◌, ◌≢◌, ℕ, zero, suc, ◌+◌, ◌-◌, ◌*◌, ◌<◌, ◌≤◌, true, false, List, [], ◌∷◌, ◌++◌, length, get_or, drop, arith, ap, ◌∙◌, sym, refl, inl, inr}
use Rattle.std.specs.List.{AllByRecursion}
use Rattle.std.proofs.Math.ListN.{set}
use Rattle.std.proofs.Math.Seq.{drop-cons}
use Rattle.std.proofs.lemmas.List.{drop_all, drop-set}
use Rattle.std.proofs.lemmas.Bool.{cases_lt, cases_eq, cases_Bool, eq-eqb, ne_eqb, eqb-false}
use Rattle.lists.specs.Bytes.{IsByte, AreBytes}
use Rattle.gf256.specs.Arithmetic.{sum_of, product, point}
use Rattle.gf256.specs.FieldLaws.{IsField}
use Rattle.gf256.specs.ByteField.{byte_field, point_byte, point_apart}
use Rattle.gf256.specs.ProductLaws.{inverse_of, inverse_byte, product_inverse, product_byte, product_zero, sum_byte}
use Rattle.poly.specs.Polynomial.{value, value_over, power_over, root_product_over, AreDifferent}
use Rattle.poly.proofs.Bytes.{bytes_by_recursion, bytes_from_recursion}
use Rattle.poly.proofs.Lists.{all_by_place, all_from_places}
use Rattle.poly.proofs.Roots.{quotient_over, quotient_elements, quotient_length, value_element, factor, none_from_product, equal_from_sum, none_from_quotient, none_from_roots}
use Rattle.poly.proofs.Product.{times_over, roots_over, value_of_factor, times_elements, times_length, roots_elements, roots_length, value_is_product, root_product_element, root_product_push, root_product_none, root_product_some}
use Rattle.poly.proofs.Multiplying.{times_last}
use Rattle.gf256.specs.Sums.{row_times, dot}
use Rattle.elim.specs.Matrices.{identity_entry, AreElements}
use Rattle.elim.specs.Vandermonde.{vandermonde_entry}
use Rattle.elim.specs.Generator.{power_entry}
use Rattle.elim.specs.CodePoints.{ArePoints}
use Rattle.elim.specs.Steps.{IsRowSet}
use Rattle.elim.proofs.Sums.{sum_same}
use Rattle.elim.specs.Lagrange.{others, root_product, differences, IsMaster, IsNumerator, IsEntry}
use Rattle.elim.proofs.RowTimes.{unit_here, unit_there, unit_element, unit_swapped, dot_element, dot_same, dot_swapped, dot_scaled, dot_of_sums, dot_picks, picks_dot, row_times_twice}
use Rattle.elim.proofs.Interpolation.{listed, value_is, vandermonde_whole}
use Rattle.elim.proofs.CodePoints.{points_bytes, points_different, power_of_point}
use Rattle.elim.specs.Squares.{AreInverseSquares}

module _ {F : Type 0} (element : F → Type 0) (add mul : F → F → F) (none one : F) (field : IsField element add mul none one) where
  -- a factor that isn't nothing is taken away
  cancelled : (a b c : F) → element a → element b → element c → b ≢ none → mul a b ≡ mul c b → a ≡ c
  cancelled a b c ea eb ec some same =
      let i = field.inverse b eb some in
      let e1 = field.mul_assoc a b i.0 ea eb i.1 in
      let e2 = field.mul_assoc c b i.0 ec eb i.1 in
      let e3 : mul b i.0 ≡ one = i.2 in
      let e4 = field.mul_one a ea in
      let e5 = field.mul_one c ec in
      (cc)

  -- a left inverse of a square matrix that sends no row but zero to zero is a right inverse
  right_inverse : (k : ℕ) (m w : ℕ → ℕ → F) → ((i : ℕ) → AreElements element (m i)) → ((i : ℕ) → AreElements element (w i))
      → ((x : ℕ → F) → AreElements element x → ((j : ℕ) → j < k → row_times add mul none x m k j ≡ none) → (i : ℕ) → i < k → x i ≡ none)
      → ((i j : ℕ) → i < k → j < k → row_times add mul none (w i) m k j ≡ identity_entry none one i j)
      → (i j : ℕ) → i < k → j < k → row_times add mul none (m i) w k j ≡ identity_entry none one i j
  right_inverse k m w em ew whole left i j li lj =
      let row : ℕ → F = row_times add mul none (m i) w k in
      let erow : AreElements element (row_times add mul none (m i) w k) = λ l. dot_element element add mul none one field (m i) (λ a. w a l) k (em i) (λ a. ew a l) in
      let unit : ℕ → F = identity_entry none one i in
      let eunit : AreElements element (identity_entry none one i) = unit_element element add mul none one field i in
      let both : ℕ → F = λ l. add (row_times add mul none (m i) w k l) (identity_entry none one i l) in
      let eboth : AreElements element (λ l. add (row_times add mul none (m i) w k l) (identity_entry none one i l)) = λ l. field.add_element _ _ (erow l) (eunit l) in
      let gone : (c : ℕ) → c < k → row_times add mul none (λ l. add (row_times add mul none (m i) w k l) (identity_entry none one i l)) m k c ≡ none = λ c lc.
      (dot_swapped element add mul none one field both (λ l. m l c) k eboth (λ l. em l c)
      ∙ dot_of_sums element add mul none one field (λ l. m l c) row unit k (λ l. em l c) erow eunit
      ∙ ap (λ v. add v (dot add mul none (λ l. m l c) unit k))
      (dot_swapped element add mul none one field (λ l. m l c) row k (λ l. em l c) erow
      ∙ row_times_twice element add mul none one field (m i) w m k k c (em i) ew em
      ∙ dot_same element add mul none one field (m i) (λ a. row_times add mul none (w a) m k c) (identity_entry none one c) k
      (λ a la. left a c la lc ∙ unit_swapped element add mul none one field a c)
      ∙ dot_picks element add mul none one field (m i) k c (em i) lc)
      ∙ ap (add (m i c)) (dot_swapped element add mul none one field (λ l. m l c) unit k (λ l. em l c) eunit ∙ picks_dot element add mul none one field (λ l. m l c) k i (λ l. em l c) li)
      ∙ field.add_self (m i c) (em i c)) in
      equal_from_sum element add mul none one field (row_times add mul none (m i) w k j) (identity_entry none one i j) (erow j) (eunit j) (whole both eboth gone j lj)

pub power_byte : (i : ℕ) → AreElements IsByte (power_entry i)
power_byte i j = point_byte (i * j)

-- rows that are one at their own point and zero at the others are the inverse of V
pub inverse_from_values : (k : ℕ) (points : List ℕ) → k ≤ 255 → ArePoints k points → (w : ℕ → ℕ → ℕ) → ((i : ℕ) → AreElements IsByte (w i))
    → ((i j : ℕ) → i < k → j < k → row_times sum_of product 0 (w i) power_entry k j ≡ identity_entry 0 1 i j)
    → AreInverseSquares sum_of product 0 1 k power_entry w
inverse_from_values k points few h w ew left = record {
  left = left;
  right = right_inverse IsByte sum_of product 0 1 byte_field k power_entry w power_byte ew
      (λ x ex gone. vandermonde_whole IsByte sum_of product 0 1 byte_field k points h.count (points_bytes k points h) (points_different k points few h) x ex
      (λ j lj. dot_same IsByte sum_of product 0 1 byte_field x (λ i. vandermonde_entry product 0 1 points i j) (λ i. power_entry i j) k
      (λ i li. ap (λ z. power_over product 1 z i) (h.at j lj) ∙ power_of_point i j) ∙ gone j lj))
      left;
}

listed_places : (p : List ℕ) (k : ℕ) → length p ≡ k → listed (λ m. get_or p m 0) k ≡ p
listed_places [] zero len = refl
listed_places [] (suc k) len = absurd (omega arith)
listed_places (a ∷ p) zero len = absurd (omega arith)
listed_places (a ∷ p) (suc k) len = ap (λ l. a ∷ l) (listed_places p k (omega arith))

-- coefficients, each times s, times a column of V are a value times s
pub scaled_value : (s : ℕ) (p : List ℕ) (k j : ℕ) → IsByte s → length p ≡ k → AreBytes p
    → row_times sum_of product 0 (λ m. product s (get_or p m 0)) power_entry k j ≡ product s (value p (point j))
scaled_value s p k j es len bytes =
    let row : ℕ → ℕ = λ m. get_or p m 0 in
    let column : ℕ → ℕ = λ m. power_entry m j in
    let ecolumn : AreElements IsByte (λ m. power_entry m j) = λ m. power_byte m j in
    dot_swapped IsByte sum_of product 0 1 byte_field (λ m. product s (get_or p m 0)) column k (λ m. product_byte s _ (bytes m)) ecolumn
    ∙ dot_scaled IsByte sum_of product 0 1 byte_field column row s k ecolumn bytes es
    ∙ ap (product s) (dot_swapped IsByte sum_of product 0 1 byte_field column row k ecolumn bytes
    ∙ dot_same IsByte sum_of product 0 1 byte_field row column (power_over product 1 (point j)) k (λ m lm. sym (power_of_point m j))
    ∙ value_is IsByte sum_of product 0 1 byte_field row k (point j) bytes (point_byte j)
    ∙ ap (λ l. value l (point j)) (listed_places p k len))

-- a numerator divided by its value at its own point
pub unit_row : (k i : ℕ) (p : List ℕ) (s : ℕ) → IsByte s → IsNumerator k i p → product (value p (point i)) s ≡ 1 → (j : ℕ) → j < k
    → row_times sum_of product 0 (λ m. product s (get_or p m 0)) power_entry k j ≡ identity_entry 0 1 i j
unit_row k i p s es h one j lj =
    scaled_value s p k j es h.count h.bytes
    ∙ elim (cases_eq j i) [
      | inl e ↦
          (ap (λ v. product s (value p (point v))) e
          ∙ byte_field.mul_comm s (value p (point i)) es (value_element IsByte sum_of product 0 1 byte_field p (point i) (bytes_by_recursion p h.bytes) (point_byte i))
          ∙ one ∙ sym (unit_here 0 1 i j (sym e)))
      | inr ne ↦ (ap (product s) (h.zero j lj ne) ∙ product_zero s ∙ sym (unit_there 0 1 i j (λ e. ne (sym e))))
    ]

points_sum_some : (i j : ℕ) → i < 255 → j < 255 → j ≢ i → sum_of (point j) (point i) ≢ 0
points_sum_some i j li lj ne z = ne (point_apart j i lj li (equal_from_sum IsByte sum_of product 0 1 byte_field (point j) (point i) (point_byte j) (point_byte i) z))

-- at each point the product is zero
product_at_place : (k : ℕ) (points : List ℕ) → ArePoints k points → (j : ℕ) → j < k → root_product points (point j) ≡ 0
product_at_place k points h j lj =
    let inside : j < length points = rw h.count lj in
    let all = all_by_place (λ p. root_product points p ≡ 0) points (root_product_none IsByte sum_of product 0 1 byte_field points (points_bytes k points h)) in
    ap (root_product points) (sym (h.at j lj)) ∙ all j 0 inside

-- ---- the quotients of the master polynomial

pub numerator_is : (k i : ℕ) (points master : List ℕ) → k ≤ 255 → ArePoints k points → IsMaster points master → i < k
    → IsNumerator k i (quotient_over sum_of product 0 master (point i))
numerator_is k i points [] few h m li = absurd (omega (arith, m.count))
numerator_is k i points (c ∷ cs) few h m li =
    let master : List ℕ = c ∷ cs in
    let q : List ℕ = quotient_over sum_of product 0 (c ∷ cs) (point i) in
    let em : AllByRecursion IsByte (c ∷ cs) = bytes_by_recursion (c ∷ cs) m.bytes in
    let eq : AllByRecursion IsByte (quotient_over sum_of product 0 (c ∷ cs) (point i)) = quotient_elements IsByte sum_of product 0 1 byte_field (c ∷ cs) (point i) em (point_byte i) in
    let len : length (quotient_over sum_of product 0 (c ∷ cs) (point i)) ≡ k = quotient_length IsByte sum_of product 0 1 byte_field c cs (point i) ∙ omega (arith, m.count, h.count) in
    let root : (j : ℕ) → j < k → value (c ∷ cs) (point j) ≡ 0 = λ j lj. m.values (point j) (point_byte j) ∙ product_at_place k points h j lj in
    let gone : (j : ℕ) → j < k → j ≢ i → value (quotient_over sum_of product 0 (c ∷ cs) (point i)) (point j) ≡ 0 = λ j lj ne.
    (let ev : IsByte (value q (point j)) = value_element IsByte sum_of product 0 1 byte_field q (point j) eq (point_byte j) in
    let eu : IsByte (sum_of (point j) (point i)) = sum_byte (point j) (point i) (point_byte j) (point_byte i) in
    let e1 = factor IsByte sum_of product 0 1 byte_field (c ∷ cs) (point i) (point j) em (point_byte i) (point_byte j) in
    let e2 = root j lj in
    let e3 = root i li in
    let e4 = byte_field.add_zero (product (sum_of (point j) (point i)) (value q (point j))) (product_byte _ _ ev) in
    none_from_product IsByte sum_of product 0 1 byte_field (sum_of (point j) (point i)) (value q (point j)) eu ev (points_sum_some i j (omega arith) (omega arith) ne) (cc)) in
    record {
      count = len;
      bytes = bytes_from_recursion q eq;
      zero = gone;
      here = λ z.
          let all : AllByRecursion (λ x. value q x ≡ 0) points = all_from_places (λ x. value q x ≡ 0) 0 points (λ j lt.
          let lj : j < k = rw h.count at lt in
          ap (value q) (h.at j lj) ∙ elim (cases_eq j i) [ inl e ↦ ap (λ v. value q (point v)) e ∙ z | inr ne ↦ gone j lj ne ]) in
          let none = none_from_roots IsByte sum_of product 0 1 byte_field points q (len ∙ sym h.count) eq (points_bytes k points h) (points_different k points few h) all in
          let nothing = none_from_quotient IsByte sum_of product 0 1 byte_field (c ∷ cs) (point i) em (point_byte i) (root i li) none in
          let zero_there = all_by_place (λ x. x ≡ 0) (c ∷ cs) nothing (length points) 0 (omega (arith, m.count)) in
          omega (arith, zero_there, m.leading);
    }

-- the product of the first factor and the product of the others
pub master_is : (first : ℕ) (rest cs : List ℕ) → IsByte first → AllByRecursion IsByte rest → AllByRecursion IsByte cs → length cs ≡ length rest + 1
    → get_or cs (length rest) 0 ≡ 1 → ((z : ℕ) → IsByte z → value cs z ≡ root_product rest z)
    → IsMaster (first ∷ rest) (times_over sum_of product first 0 cs)
unfolding root_product_over
master_is first rest cs ef er ec len leading values = record {
  count = times_length IsByte sum_of product 0 1 byte_field first 0 cs ∙ omega (arith, len);
  bytes = bytes_from_recursion _ (times_elements IsByte sum_of product 0 1 byte_field first 0 cs ef (omega arith) ec);
  values = λ z ez. value_of_factor IsByte sum_of product 0 1 byte_field first cs z ef ec ez ∙ ap (product (sum_of z first)) (values z ez);
  leading =
      (let e : suc (length rest) ≡ length cs = omega (arith, len) in
      ap (λ n. get_or (times_over sum_of product first 0 cs) n 0) e ∙ times_last sum_of product 0 first 0 cs ∙ ap (λ n. get_or (0 ∷ cs) n 0) (sym e) ∙ leading);
}

-- ---- the products of the differences

others_bytes : (ps : List ℕ) (x : ℕ) → AllByRecursion IsByte ps → AllByRecursion IsByte (others ps x)
others_bytes [] x h = tt
others_bytes (p ∷ ps) x h = elim (cases_Bool (x == p)) [
  | inl same ↦ rw same (others_bytes ps x h.1)
  | inr apart ↦ rw apart (h.0, others_bytes ps x h.1)
]

others_apart : (ps : List ℕ) (x : ℕ) → AllByRecursion (λ p. p ≢ x) (others ps x)
others_apart [] x = tt
others_apart (p ∷ ps) x = elim (cases_Bool (x == p)) [
  | inl same ↦ rw same (others_apart ps x)
  | inr apart ↦ rw apart ((λ e. eqb-false x p apart (sym e)), others_apart ps x)
]

-- where x isn't among the points
others_all : (ps : List ℕ) (x : ℕ) → AllByRecursion (λ p. p ≢ x) ps → others ps x ≡ ps
others_all [] x h = refl
others_all (p ∷ ps) x h = rw (ne_eqb x p (λ e. h.0 (sym e))) (ap (λ l. p ∷ l) (others_all ps x h.1))

pub differences_byte : (ps : List ℕ) (x : ℕ) → AllByRecursion IsByte ps → IsByte x → IsByte (differences ps x)
differences_byte ps x h hx = root_product_element IsByte sum_of product 0 1 byte_field (others ps x) x (others_bytes ps x h) hx

-- none of them is zero
pub differences_some : (ps : List ℕ) (x : ℕ) → AllByRecursion IsByte ps → IsByte x → differences ps x ≢ 0
differences_some ps x h hx = root_product_some IsByte sum_of product 0 1 byte_field (others ps x) x (others_bytes ps x h) hx (others_apart ps x)

pub differences_same : (ps : List ℕ) (p x : ℕ) → (x == p) ≡ true → differences (ps ++ p ∷ []) x ≡ differences ps x
differences_same ps p x e = ap (λ l. root_product l x) (more ps)
  where
    more : (ps : List ℕ) → others (ps ++ p ∷ []) x ≡ others ps x
    more [] = rw e refl
    more (q ∷ ps) = elim (cases_Bool (x == q)) [
      | inl same ↦ rw same (more ps)
      | inr apart ↦ rw apart (ap (λ l. q ∷ l) (more ps))
    ]

pub differences_more : (ps : List ℕ) (p x : ℕ) → AllByRecursion IsByte ps → IsByte p → IsByte x → (x == p) ≡ false
    → differences (ps ++ p ∷ []) x ≡ product (differences ps x) (sum_of x p)
differences_more ps p x eps ep ex ne =
    ap (λ l. root_product l x) (more ps)
    ∙ root_product_push IsByte sum_of product 0 1 byte_field (others ps x) p x (others_bytes ps x eps) ep ex
    ∙ byte_field.mul_comm (sum_of x p) (differences ps x) (sum_byte x p ex ep) (differences_byte ps x eps ex)
  where
    more : (ps : List ℕ) → others (ps ++ p ∷ []) x ≡ others ps x ++ p ∷ []
    more [] = rw ne refl
    more (q ∷ ps) = elim (cases_Bool (x == q)) [
      | inl same ↦ rw same (more ps)
      | inr apart ↦ rw apart (ap (λ l. q ∷ l) (more ps))
    ]

-- the product over the points is that over the others times the difference to x, which stands at
-- place i
others_factor : (ps : List ℕ) (x z i : ℕ) → AllByRecursion IsByte ps → AreDifferent ps → IsByte x → IsByte z → i < length ps → get_or ps i 0 ≡ x
    → product (sum_of z x) (root_product (others ps x) z) ≡ root_product ps z
unfolding root_product_over
others_factor [] x z i eps apart ex ez li here = absurd (omega arith)
others_factor (p ∷ ps) x z zero eps apart ex ez li here =
    let all : AllByRecursion (λ y. y ≢ x) ps = rw here at apart.0 in
    rw (eq-eqb x p (sym here)) (ap (λ l. product (sum_of z x) (root_product l z)) (others_all ps x all) ∙ ap (λ v. product (sum_of z v) (root_product ps z)) (sym here))
others_factor (p ∷ ps) x z (suc i) eps apart ex ez li here =
    let inside : i < length ps = omega arith in
    let ne : x ≢ p = λ e. all_by_place (λ y. y ≢ p) ps apart.0 i 0 inside (here ∙ e) in
    let r : ℕ = root_product (others ps x) z in
    let er : IsByte (root_product (others ps x) z) = root_product_element IsByte sum_of product 0 1 byte_field (others ps x) z (others_bytes ps x eps.1) ez in
    let ex2 : IsByte (sum_of z x) = sum_byte z x ez ex in
    let ep2 : IsByte (sum_of z p) = sum_byte z p ez eps.0 in
    let e1 = byte_field.mul_assoc (sum_of z x) (sum_of z p) r ex2 ep2 er in
    let e2 = byte_field.mul_comm (sum_of z x) (sum_of z p) ex2 ep2 in
    let e3 = byte_field.mul_assoc (sum_of z p) (sum_of z x) r ep2 ex2 er in
    let e4 = others_factor ps x z i eps.1 apart.1 ex ez inside here in
    rw (ne_eqb x p ne) (cc)

others_length : (ps : List ℕ) (x i : ℕ) → AreDifferent ps → i < length ps → get_or ps i 0 ≡ x → suc (length (others ps x)) ≡ length ps
others_length [] x i apart li here = absurd (omega arith)
others_length (p ∷ ps) x zero apart li here =
    let all : AllByRecursion (λ y. y ≢ x) ps = rw here at apart.0 in
    rw (eq-eqb x p (sym here)) (ap (λ l. suc (length l)) (others_all ps x all))
others_length (p ∷ ps) x (suc i) apart li here =
    let inside : i < length ps = omega arith in
    let ne : x ≢ p = λ e. all_by_place (λ y. y ≢ p) ps apart.0 i 0 inside (here ∙ e) in
    rw (ne_eqb x p ne) (ap suc (others_length ps x i apart.1 inside here))

-- the coefficients of the product over the points other than point i
abbrev rooted : List ℕ → ℕ → List ℕ
rooted points i = roots_over sum_of product 0 1 (others points (point i))

abbrev scale : List ℕ → ℕ → ℕ
scale points i = inverse_of (differences points (point i))

-- rows of the coefficients of Lagrange's polynomials
abbrev pub basis : List ℕ → ℕ → ℕ → ℕ
basis points i m = product (scale points i) (get_or (rooted points i) m 0)

-- the value of one at a point
abbrev pub basis_at : ℕ → List ℕ → ℕ → ℕ → ℕ
basis_at k points i j = row_times sum_of product 0 (basis points i) power_entry k j

module _ (k : ℕ) (points : List ℕ) (few : k ≤ 255) (h : ArePoints k points) where
  bytes : AllByRecursion IsByte points
  bytes = points_bytes k points h

  scale_byte : (i : ℕ) → IsByte (scale points i)
  scale_byte i = inverse_byte _ (differences_byte points (point i) bytes (point_byte i))

  rooted_bytes : (i : ℕ) → AllByRecursion IsByte (rooted points i)
  rooted_bytes i = roots_elements IsByte sum_of product 0 1 byte_field (others points (point i)) (others_bytes points (point i) bytes)

  pub basis_byte : (i : ℕ) → AreElements IsByte (basis points i)
  basis_byte i m = product_byte _ _ (bytes_from_recursion (rooted points i) (rooted_bytes i) m)

  rooted_value : (i z : ℕ) → IsByte z → value (rooted points i) z ≡ root_product (others points (point i)) z
  rooted_value i z ez = value_is_product IsByte sum_of product 0 1 byte_field (others points (point i)) z (others_bytes points (point i) bytes) ez

  rooted_factor : (i z : ℕ) → i < k → IsByte z → product (sum_of z (point i)) (root_product (others points (point i)) z) ≡ root_product points z
  rooted_factor i z li ez =
      others_factor points (point i) z i bytes (points_different k points few h) (point_byte i) ez (let inside : i < length points = rw h.count li in inside) (h.at i li)

  rooted_is : (i : ℕ) → i < k → IsNumerator k i (rooted points i)
  rooted_is i li = record {
    count = roots_length IsByte sum_of product 0 1 byte_field (others points (point i))
        ∙ others_length points (point i) i (points_different k points few h) (let inside : i < length points = rw h.count li in inside) (h.at i li) ∙ h.count;
    bytes = bytes_from_recursion (rooted points i) (rooted_bytes i);
    zero = λ j lj ne. rooted_value i (point j) (point_byte j)
        ∙ none_from_product IsByte sum_of product 0 1 byte_field (sum_of (point j) (point i)) (root_product (others points (point i)) (point j))
        (sum_byte (point j) (point i) (point_byte j) (point_byte i))
        (root_product_element IsByte sum_of product 0 1 byte_field (others points (point i)) (point j) (others_bytes points (point i) bytes) (point_byte j))
        (points_sum_some i j (omega arith) (omega arith) ne)
        (rooted_factor i (point j) li (point_byte j) ∙ product_at_place k points h j lj);
    here = λ z. differences_some points (point i) bytes (point_byte i) (sym (rooted_value i (point i) (point_byte i)) ∙ z);
  }

  pub basis_unit : (i j : ℕ) → i < k → j < k → row_times sum_of product 0 (basis points i) power_entry k j ≡ identity_entry 0 1 i j
  basis_unit i j li lj =
      let d = differences_byte points (point i) bytes (point_byte i) in
      let some = differences_some points (point i) bytes (point_byte i) in
      unit_row k i (rooted points i) (scale points i) (scale_byte i) (rooted_is i li)
      (ap (λ v. product v (scale points i)) (rooted_value i (point i) (point_byte i)) ∙ product_inverse (differences points (point i)) (omega (arith, some)) d) j lj

  -- what an entry is divided by isn't zero
  pub below_some : (i j : ℕ) → i < k → k ≤ j → j < 255 → product (differences points (point i)) (sum_of (point j) (point i)) ≢ 0
  below_some i j li ge lj e =
      points_sum_some i j (omega arith) lj (omega arith)
      (none_from_product IsByte sum_of product 0 1 byte_field (differences points (point i)) (sum_of (point j) (point i)) (differences_byte points (point i) bytes (point_byte i))
      (sum_byte (point j) (point i) (point_byte j) (point_byte i)) (differences_some points (point i) bytes (point_byte i)) e)

  -- an entry of the generator matrix is a value of a row
  pub entry_is : (i j v : ℕ) → i < k → j < 255 → IsEntry k points i j v → v ≡ row_times sum_of product 0 (basis points i) power_entry k j
  entry_is i j v li lj is = elim (cases_lt j k) [
    | inl lt ↦ is.front lt ∙ sym (basis_unit i j li lt)
    | inr ge ↦ (
        let x : ℕ = point i in
        let z : ℕ = point j in
        let d : ℕ = differences points (point i) in
        let r : ℕ = root_product (others points (point i)) (point j) in
        let ed : IsByte (differences points (point i)) = differences_byte points (point i) bytes (point_byte i) in
        let er : IsByte (root_product (others points (point i)) (point j)) = root_product_element IsByte sum_of product 0 1 byte_field (others points (point i)) (point j) (others_bytes points (point i) bytes) (point_byte j) in
        let eu : IsByte (sum_of (point j) (point i)) = sum_byte (point j) (point i) (point_byte j) (point_byte i) in
        let es : IsByte (inverse_of (differences points (point i))) = scale_byte i in
        let some : differences points (point i) ≢ 0 = differences_some points (point i) bytes (point_byte i) in
        let apart : AllByRecursion (λ p. p ≢ point j) points = all_from_places (λ p. p ≢ point j) 0 points (λ m lt e.
        let lm : m < k = rw h.count at lt in
        let same : m ≡ j = point_apart m j (omega arith) lj (sym (h.at m lm) ∙ e) in
        omega arith) in
        let whole : differences points (point j) ≡ root_product points (point j) = ap (λ l. root_product l (point j)) (others_all points (point j) apart) in
        let below : product (differences points (point i)) (sum_of (point j) (point i)) ≢ 0 = below_some i j li ge lj in
        let e1 = is.beyond ge in
        let e2 = rooted_factor i (point j) li (point_byte j) in
        let e3 : product (differences points (point i)) (inverse_of (differences points (point i))) ≡ 1 = product_inverse d (omega (arith, some)) ed in
        let made : product (product (scale points i) r) (product d (sum_of z x)) ≡ differences points (point j) =
        (let f1 = byte_field.mul_comm (scale points i) r es er in
        let f2 = byte_field.mul_assoc r (scale points i) (product d (sum_of z x)) er es (product_byte _ _ eu) in
        let f3 = byte_field.mul_assoc (scale points i) d (sum_of z x) es ed eu in
        let f4 = byte_field.mul_comm (scale points i) d es ed in
        let f5 = byte_field.mul_comm 1 (sum_of z x) (omega arith) eu in
        let f6 = byte_field.mul_one (sum_of z x) eu in
        let f7 = byte_field.mul_comm r (sum_of z x) er eu in
        (cc)) in
        cancelled IsByte sum_of product 0 1 byte_field v (product d (sum_of z x)) (product (scale points i) r) is.byte (product_byte _ _ eu) (product_byte _ _ er) below (e1 ∙ sym made)
        ∙ ap (product (scale points i)) (sym (rooted_value i (point j) (point_byte j)))
        ∙ sym (scaled_value (scale points i) (rooted points i) k j (scale_byte i) (rooted_is i li).count (rooted_is i li).bytes))
  ]

-- ---- the quotient of a list from its last place on

pub quotient_none : (p : List ℕ) (n x : ℕ) → length p ≡ n + 1 → quotient_over sum_of product 0 (drop n p) x ≡ []
quotient_none p n x len =
    ap (λ l. quotient_over sum_of product 0 l x) (drop-cons p n 0 (omega arith) ∙ ap (λ l. get_or p n 0 ∷ l) (drop_all (suc n) p (omega arith)))

quotient_next : (p : List ℕ) (j x : ℕ) → suc j < length p
    → quotient_over sum_of product 0 (drop j p) x ≡ value (drop (suc j) p) x ∷ quotient_over sum_of product 0 (drop (suc j) p) x
quotient_next p j x lt =
    let next = drop-cons p (suc j) 0 lt in
    ap (λ l. quotient_over sum_of product 0 l x) (drop-cons p j 0 (omega arith) ∙ ap (λ l. get_or p j 0 ∷ l) next)
    ∙ sym (ap (λ l. value l x ∷ quotient_over sum_of product 0 l x) next)

pub value_next : (p : List ℕ) (m x a v next : ℕ) → 0 < m → m < length p → a ≡ get_or p (m - 1 + 1) a → v ≡ value (drop (m + 1) p) x → next ≡ sum_of a (product x v)
    → next ≡ value (drop m p) x
unfolding value_over
value_next p m x a v next some lt here e is =
    let e1 : m - 1 + 1 ≡ m = omega arith in
    let e2 : m + 1 ≡ suc m = omega arith in
    let place : a ≡ get_or p m a = rw e1 at here in
    let rest : v ≡ value (drop (suc m) p) x = rw e2 at e in
    is ∙ ap (λ y. sum_of a (product x y)) rest ∙ ap (λ y. sum_of y (product x (value (drop (suc m) p) x))) place
    ∙ sym (ap (λ l. value l x) (drop-cons p m a lt))

pub quotient_more : (p q : List ℕ) (m x next : ℕ) → 0 < m → m < length p → m ≤ length q → next ≡ value (drop m p) x
    → drop m q ≡ quotient_over sum_of product 0 (drop m p) x
    → drop (m - 1) (set q (m - 1) next) ≡ quotient_over sum_of product 0 (drop (m - 1) p) x
quotient_more p q m x next some lt le is so_far =
    let e1 : m - 1 + 1 ≡ m = omega arith in
    let e2 : suc (m - 1) ≡ m = omega arith in
    let inside : m - 1 < length q = omega arith in
    let more : suc (m - 1) < length p = omega arith in
    drop-set q (m - 1) next inside
    ∙ ap (λ n. next ∷ drop n q) e1
    ∙ ap (λ l. next ∷ l) so_far
    ∙ ap (λ y. y ∷ quotient_over sum_of product 0 (drop m p) x) is
    ∙ sym (quotient_next p (m - 1) x more ∙ ap (λ n. value (drop n p) x ∷ quotient_over sum_of product 0 (drop n p) x) e2)

-- ---- rows that are set one after another

-- the rows before i are one at their own point and zero at the others
abbrev pub AreUnits : ℕ → ℕ → (ℕ → ℕ → ℕ) → Type 0
AreUnits k i w = (a j : ℕ) → a < i → j < k → row_times sum_of product 0 (w a) power_entry k j ≡ identity_entry 0 1 a j

pub units_more : (k i s : ℕ) (q : List ℕ) (old new : ℕ → ℕ → ℕ) → i < k → IsByte s → IsNumerator k i q → product (value q (point i)) s ≡ 1
    → IsRowSet k k i (λ j. product s (get_or q j 0)) old new → AreUnits k i old → AreUnits k (i + 1) new
units_more k i s q old new li es h one set so_far a j la lj = elim (cases_eq a i) [
  | inl e ↦ rw e (
      sum_same IsByte sum_of product 0 1 byte_field (λ m. product (new i m) (power_entry m j)) (λ m. product (product s (get_or q m 0)) (power_entry m j)) k
      (λ m lm. ap (λ v. product v (power_entry m j)) (set.here m lm))
      ∙ unit_row k i q s es h one j lj)
  | inr ne ↦ (
      let below : a < i = omega arith in
      let inside : a < k = omega arith in
      sum_same IsByte sum_of product 0 1 byte_field (λ m. product (new a m) (power_entry m j)) (λ m. product (old a m) (power_entry m j)) k
      (λ m lm. ap (λ v. product v (power_entry m j)) (set.others a m inside lm ne))
      ∙ so_far a j below lj)
]

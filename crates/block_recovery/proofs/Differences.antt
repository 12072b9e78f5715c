-- Values of a polynomial at more points than it has coefficients, each divided by the product of
-- the differences between its point and the others, add up to nothing.
use Rattle.std.specs.Prelude.{◌==◌}
use Rattle.std.proofs.Common.{◌≡◌, ◌≢◌, ℕ, ◌<◌, true, false, List, [], ◌∷◌, ◌++◌, length, refl, sym, ap, subst, ◌∙◌, inl, inr, arith}
use Rattle.std.proofs.Math.Path.{fun_ext}
use Rattle.std.specs.List.{AllByRecursion}
use Rattle.std.proofs.lemmas.Bool.{cases_Bool, eq-eqb, ne_eqb, eqb-false}
use Rattle.lists.specs.Bytes.{IsByte}
use Rattle.gf256.specs.Arithmetic.{sum_of, product, point}
use Rattle.gf256.specs.ByteField.{byte_field, point_byte, point_apart}
use Rattle.gf256.specs.FieldLaws.{IsField}
use Rattle.std.proofs.lemmas.Nat.{xor_comm}
use Rattle.std.specs.Int.Bits.{xor_assoc}
use Rattle.gf256.specs.ProductLaws.{product_byte, sum_byte, inverse_of, inverse_byte, product_inverse}
use Rattle.poly.specs.Polynomial.{value_over, value, AreDifferent, IsPolynomial}
use Rattle.poly.proofs.Bytes.{bytes_by_recursion}
use Rattle.poly.proofs.Roots.{mul_zero, equal_from_sum, none_from_product, regrouped, quotient_over, quotient_elements, quotient_length, value_element, factor}
use Rattle.block_recovery.specs.Differences.{differences, weight, weighted_sum}

-- over any field, for points that are told by numbers
module _ {F : Type 0} (element : F → Type 0) (add mul : F → F → F) (none one : F) (field : IsField element add mul none one)
    (at : ℕ → F) (at_element : (j : ℕ) → element (at j)) where
  abbrev total : (ℕ → F) → List ℕ → F
  total v [] = none
  total v (j ∷ js) = add (v j) (total v js)

  abbrev apart_product : List ℕ → ℕ → F
  apart_product [] j = one
  apart_product (i ∷ js) j = mul (add (at j) (at i)) (apart_product js j)

  -- weights with a point less: each times the difference that falls away
  abbrev without : ℕ → (ℕ → F) → ℕ → F
  without j w i = mul (w i) (add (at i) (at j))

  -- each times the differences to the points behind it is one, and so when it is taken away
  abbrev AreWeights : (ℕ → F) → List ℕ → Type 0
  AreWeights w [] = Unit {0}
  AreWeights w (j ∷ js) = (mul (w j) (apart_product js j) ≡ one) × AreWeights (without j w) js

  abbrev AreApart : List ℕ → Type 0
  AreApart [] = Unit {0}
  AreApart (j ∷ js) = AllByRecursion (λ i. at i ≢ at j) js × AreApart js

  total_element : (v : ℕ → F) → ((j : ℕ) → element (v j)) → (js : List ℕ) → element (total v js)
  total_element v ev [] = field.zero_element
  total_element v ev (j ∷ js) = field.add_element (v j) _ (ev j) (total_element v ev js)

  apart_element : (js : List ℕ) (j : ℕ) → element (apart_product js j)
  apart_element [] j = field.one_element
  apart_element (i ∷ js) j = field.mul_element _ _ (field.add_element _ _ (at_element j) (at_element i)) (apart_element js j)

  without_element : (j : ℕ) (w : ℕ → F) → ((i : ℕ) → element (w i)) → (i : ℕ) → element (without j w i)
  without_element j w ew i = field.mul_element (w i) _ (ew i) (field.add_element _ _ (at_element i) (at_element j))

  -- at the point itself nothing is left
  without_here : (j : ℕ) (w : ℕ → F) → ((i : ℕ) → element (w i)) → without j w j ≡ none
  without_here j w ew =
      let e1 = field.add_self (at j) (at_element j) in
      let e2 = mul_zero element add mul none one field (w j) (ew j) in
      (cc)

  total_sum : (v u : ℕ → F) → ((j : ℕ) → element (v j)) → ((j : ℕ) → element (u j)) → (js : List ℕ)
      → total (λ j. add (v j) (u j)) js ≡ add (total v js) (total u js)
  total_sum v u ev eu [] = sym (field.add_zero none field.zero_element)
  total_sum v u ev eu (j ∷ js) =
      let e1 = total_sum v u ev eu js in
      let e2 = regrouped element add mul none one field (v j) (u j) (total v js) (total u js) (ev j) (eu j) (total_element v ev js) (total_element u eu js) in
      (cc)

  total_times : (a : F) (v : ℕ → F) → element a → ((j : ℕ) → element (v j)) → (js : List ℕ) → total (λ j. mul a (v j)) js ≡ mul a (total v js)
  total_times a v ea ev [] = sym (mul_zero element add mul none one field a ea)
  total_times a v ea ev (j ∷ js) =
      let e1 = total_times a v ea ev js in
      let e2 = field.mul_add a (v j) (total v js) ea (ev j) (total_element v ev js) in
      (cc)

  total_none : (v : ℕ → F) → ((j : ℕ) → v j ≡ none) → (js : List ℕ) → total v js ≡ none
  total_none v all [] = refl
  total_none v all (j ∷ js) =
      let e1 = total_none v all js in
      let e2 = all j in
      let e3 = field.add_zero none field.zero_element in
      (cc)

  -- the weight of a single point is one
  one_total : (w : ℕ → F) → ((i : ℕ) → element (w i)) → (j : ℕ) → AreWeights w (j ∷ []) → total w (j ∷ []) ≡ one
  one_total w ew j are =
      let e1 = field.mul_one (w j) (ew j) in
      let e2 = field.add_zero (w j) (ew j) in
      let e3 = are.0 in
      (cc)

  -- two points are taken away in either order
  swapped : (w : ℕ → F) → ((i : ℕ) → element (w i)) → (j c : ℕ) → without c (without j w) ≡ without j (without c w)
  swapped w ew j c = fun_ext (λ i.
      let a = add (at i) (at j) in
      let b = add (at i) (at c) in
      let ea = field.add_element (at i) (at j) (at_element i) (at_element j) in
      let eb = field.add_element (at i) (at c) (at_element i) (at_element c) in
      let e1 = field.mul_assoc (w i) a b (ew i) ea eb in
      let e2 = field.mul_assoc (w i) b a (ew i) eb ea in
      let e3 = field.mul_comm a b ea eb in
      (cc))

  -- weights with the second point taken away
  second_less : (w : ℕ → F) → ((i : ℕ) → element (w i)) → (j c : ℕ) (js : List ℕ) → AreWeights w (j ∷ c ∷ js) → AreWeights (without c w) (j ∷ js)
  second_less w ew j c js are =
      let e1 = field.mul_assoc (w j) (add (at j) (at c)) (apart_product js j) (ew j) (field.add_element _ _ (at_element j) (at_element c)) (apart_element js j) in
      let e2 = are.0 in
      ((cc), subst (λ (g : ℕ → F). AreWeights g js) (swapped w ew j c) are.1.1)

  -- a difference times the weights is what is left of them when either of its points is taken away
  split_difference : (j c : ℕ) (w : ℕ → F) → ((i : ℕ) → element (w i)) → (i : ℕ) → mul (add (at j) (at c)) (w i) ≡ add (without j w i) (without c w i)
  split_difference j c w ew i =
      let ej = at_element j in
      let ec = at_element c in
      let ei = at_element i in
      let eij = field.add_element (at i) (at j) ei ej in
      let eic = field.add_element (at i) (at c) ei ec in
      let e1 = field.mul_add (w i) (add (at i) (at j)) (add (at i) (at c)) (ew i) eij eic in
      let e2 = regrouped element add mul none one field (at i) (at j) (at i) (at c) ei ej ei ec in
      let e3 = field.add_self (at i) ei in
      let e4 = field.add_comm none (add (at j) (at c)) field.zero_element (field.add_element _ _ ej ec) in
      let e5 = field.add_zero (add (at j) (at c)) (field.add_element _ _ ej ec) in
      let e6 = field.mul_comm (w i) (add (at j) (at c)) (ew i) (field.add_element _ _ ej ec) in
      (cc)

  -- a front that is nothing adds nothing
  from_second : (v : ℕ → F) → ((i : ℕ) → element (v i)) → (j : ℕ) (js : List ℕ) → v j ≡ none → total v (j ∷ js) ≡ total v js
  from_second v ev j js here =
      let e1 = field.add_comm none (total v js) field.zero_element (total_element v ev js) in
      let e2 = field.add_zero (total v js) (total_element v ev js) in
      (cc)

  -- the weights of two points or more add up to nothing, where those with either point less add up
  -- to the same
  none_from_same : (j c : ℕ) (js : List ℕ) (w : ℕ → F) → ((i : ℕ) → element (w i)) → at c ≢ at j
      → total (without j w) (c ∷ js) ≡ total (without c w) (j ∷ js) → total w (j ∷ c ∷ js) ≡ none
  none_from_same j c js w ew apart same =
      let d = add (at j) (at c) in
      let ed : element (add (at j) (at c)) = field.add_element _ _ (at_element j) (at_element c) in
      let ej : (i : ℕ) → element (without j w i) = without_element j w ew in
      let ec : (i : ℕ) → element (without c w i) = without_element c w ew in
      let times : mul (add (at j) (at c)) (total w (j ∷ c ∷ js)) ≡ add (total (without j w) (j ∷ c ∷ js)) (total (without c w) (j ∷ c ∷ js)) =
      sym (total_times d w ed ew (j ∷ c ∷ js)) ∙ ap (λ (g : ℕ → F). total g (j ∷ c ∷ js)) (fun_ext (split_difference j c w ew))
      ∙ total_sum (without j w) (without c w) ej ec (j ∷ c ∷ js) in
      let front : total (without j w) (j ∷ c ∷ js) ≡ total (without j w) (c ∷ js) = from_second (without j w) ej j (c ∷ js) (without_here j w ew) in
      let behind : total (without c w) (j ∷ c ∷ js) ≡ total (without c w) (j ∷ js) =
      ap (add (without c w j)) (from_second (without c w) ec c js (without_here c w ew)) in
      let gone : add (total (without c w) (j ∷ js)) (total (without c w) (j ∷ js)) ≡ none = field.add_self _ (total_element (without c w) ec (j ∷ js)) in
      let nothing : mul (add (at j) (at c)) (total w (j ∷ c ∷ js)) ≡ none = times ∙ (cc) in
      none_from_product element add mul none one field d (total w (j ∷ c ∷ js)) ed (total_element w ew (j ∷ c ∷ js))
      (λ z. apart (sym (equal_from_sum element add mul none one field (at j) (at c) (at_element j) (at_element c) z))) nothing

  weights_none : (j c : ℕ) (js : List ℕ) (w : ℕ → F) → ((i : ℕ) → element (w i)) → AreApart (j ∷ c ∷ js) → AreWeights w (j ∷ c ∷ js)
      → total w (j ∷ c ∷ js) ≡ none
  weights_none j c [] w ew apart are =
      none_from_same j c [] w ew apart.0.0
      (one_total (without j w) (without_element j w ew) c are.1 ∙ sym (one_total (without c w) (without_element c w ew) j (second_less w ew j c [] are)))
  weights_none j c (i ∷ js) w ew apart are =
      none_from_same j c (i ∷ js) w ew apart.0.0
      (weights_none c i js (without j w) (without_element j w ew) apart.1 are.1
      ∙ sym (weights_none j i js (without c w) (without_element c w ew) (apart.0.1, apart.1.1) (second_less w ew j c (i ∷ js) are)))

  -- a value is that of the quotient, times the difference, and what is left
  split_value : (p : List F) → AllByRecursion element p → (w : ℕ → F) → ((i : ℕ) → element (w i)) → (j i : ℕ)
      → mul (w i) (value_over add mul none p (at i))
      ≡ add (mul (without j w i) (value_over add mul none (quotient_over add mul none p (at j)) (at i))) (mul (value_over add mul none p (at j)) (w i))
  split_value p ep w ew j i =
      let q = value_over add mul none (quotient_over add mul none p (at j)) (at i) in
      let r = value_over add mul none p (at j) in
      let d = add (at i) (at j) in
      let ed : element (add (at i) (at j)) = field.add_element _ _ (at_element i) (at_element j) in
      let eq : element (value_over add mul none (quotient_over add mul none p (at j)) (at i)) =
      value_element element add mul none one field _ (at i) (quotient_elements element add mul none one field p (at j) ep (at_element j)) (at_element i) in
      let er : element (value_over add mul none p (at j)) = value_element element add mul none one field p (at j) ep (at_element j) in
      let e1 = factor element add mul none one field p (at j) (at i) ep (at_element j) (at_element i) in
      let e2 = field.mul_add (w i) (mul d q) r (ew i) (field.mul_element d q ed eq) er in
      let e3 = field.mul_assoc (w i) d q (ew i) ed eq in
      let e4 = field.mul_comm (w i) r (ew i) er in
      (cc)

  -- so do the values, where the polynomial has fewer coefficients than there are points
  pub values_none : (js : List ℕ) (p : List F) (w : ℕ → F) → length p < length js → AllByRecursion element p → ((i : ℕ) → element (w i))
      → AreApart js → AreWeights w js → total (λ i. mul (w i) (value_over add mul none p (at i))) js ≡ none
  unfolding value_over
  values_none [] p w fewer ep ew apart are = absurd (omega (arith, fewer))
  values_none (j ∷ js) [] w fewer ep ew apart are = total_none _ (λ i. mul_zero element add mul none one field (w i) (ew i)) (j ∷ js)
  values_none (j ∷ []) (a ∷ p) w fewer ep ew apart are = absurd (omega (arith, fewer))
  values_none (j ∷ c ∷ js) (a ∷ p) w fewer ep ew apart are =
      let ev : (i : ℕ) → element (mul (without j w i) (value_over add mul none (quotient_over add mul none (a ∷ p) (at j)) (at i))) = λ i.
      field.mul_element _ _ (without_element j w ew i)
      (value_element element add mul none one field _ (at i) (quotient_elements element add mul none one field (a ∷ p) (at j) ep (at_element j)) (at_element i)) in
      let er : element (value_over add mul none (a ∷ p) (at j)) = value_element element add mul none one field (a ∷ p) (at j) ep (at_element j) in
      let r = value_over add mul none (a ∷ p) (at j) in
      let here : mul (without j w j) (value_over add mul none (quotient_over add mul none (a ∷ p) (at j)) (at j)) ≡ none =
      ap (λ (x : F). mul x (value_over add mul none (quotient_over add mul none (a ∷ p) (at j)) (at j))) (without_here j w ew)
      ∙ field.mul_comm none _ field.zero_element (value_element element add mul none one field _ (at j) (quotient_elements element add mul none one field (a ∷ p) (at j) ep (at_element j)) (at_element j))
      ∙ mul_zero element add mul none one field _ (value_element element add mul none one field _ (at j) (quotient_elements element add mul none one field (a ∷ p) (at j) ep (at_element j)) (at_element j)) in
      let len : length (quotient_over add mul none (a ∷ p) (at j)) ≡ length p = quotient_length element add mul none one field a p (at j) in
      let rest = values_none (c ∷ js) (quotient_over add mul none (a ∷ p) (at j)) (without j w) (omega (arith, len, fewer))
      (quotient_elements element add mul none one field (a ∷ p) (at j) ep (at_element j)) (without_element j w ew) apart.1 are.1 in
      let weights = weights_none j c js w ew apart are in
      ap (λ (g : ℕ → F). total g (j ∷ c ∷ js)) (fun_ext (split_value (a ∷ p) ep w ew j))
      ∙ total_sum (λ i. mul (without j w i) (value_over add mul none (quotient_over add mul none (a ∷ p) (at j)) (at i))) (λ i. mul r (w i)) ev (λ i. field.mul_element _ _ er (ew i)) (j ∷ c ∷ js)
      ∙ ap (add _) (total_times r w er ew (j ∷ c ∷ js) ∙ ap (mul r) weights ∙ mul_zero element add mul none one field r er)
      ∙ field.add_zero _ (total_element _ ev (j ∷ c ∷ js))
      ∙ from_second _ ev j (c ∷ js) here
      ∙ rest

-- ---- over bytes, with the weights as they are computed

factor_byte : (j i : ℕ) → sum_of (point j) (point i) < 256
factor_byte j i = sum_byte (point j) (point i) (point_byte j) (point_byte i)

pub differences_byte : (esis : List ℕ) (j : ℕ) → differences esis j < 256
differences_byte [] j = omega arith
differences_byte (i ∷ esis) j = elim (cases_Bool (i == j)) [
  | inl same ↦ rw same (differences_byte esis j)
  | inr other ↦ rw other (product_byte _ _ (differences_byte esis j))
]

no_factor : (a b : ℕ) → a < 256 → b < 256 → a ≢ 0 → b ≢ 0 → product a b ≢ 0
no_factor a b ha hb some other none = other (none_from_product IsByte sum_of product 0 1 byte_field a b ha hb some none)

-- none is zero
pub differences_some : (esis : List ℕ) (j : ℕ) → AllByRecursion (λ i. i < 255) esis → j < 255 → differences esis j ≢ 0
differences_some [] j small lj = λ e. omega (arith, e)
differences_some (i ∷ esis) j small lj = elim (cases_Bool (i == j)) [
  | inl same ↦ rw same (differences_some esis j small.1 lj)
  | inr other ↦
      rw other (no_factor _ _ (factor_byte j i) (differences_byte esis j)
      (λ z. eqb-false i j other (sym (point_apart j i lj small.0 (equal_from_sum IsByte sum_of product 0 1 byte_field (point j) (point i) (point_byte j) (point_byte i) z))))
      (differences_some esis j small.1 lj))
]

-- where the ESI isn't among them
differences_of_others : (esis : List ℕ) (j : ℕ) → AllByRecursion (λ i. i ≢ j) esis
    → differences esis j ≡ apart_product IsByte sum_of product 0 1 byte_field point point_byte esis j
differences_of_others [] j others = refl
differences_of_others (i ∷ esis) j others = rw (ne_eqb i j others.0) (ap (product _) (differences_of_others esis j others.1))

-- the other weights with a point less
fewer_differences : (w : ℕ → ℕ) → ((i : ℕ) → w i < 256) → (j : ℕ) (all esis : List ℕ) → AllByRecursion (λ i. i ≢ j) esis
    → AllByRecursion (λ i. product (w i) (differences (j ∷ all) i) ≡ 1) esis
    → AllByRecursion (λ i. product (product (w i) (sum_of (point i) (point j))) (differences all i) ≡ 1) esis
fewer_differences w bytes j all [] others are = tt
fewer_differences w bytes j all (i ∷ esis) others are = (
  byte_field.mul_assoc (w i) (sum_of (point i) (point j)) (differences all i) (bytes i) (factor_byte i j) (differences_byte all i)
      ∙ rw (ne_eqb j i (λ e. others.0 (sym e))) at are.0,
  fewer_differences w bytes j all esis others.1 are.1,
)

are_weights : (w : ℕ → ℕ) → ((i : ℕ) → w i < 256) → (esis : List ℕ) → AreDifferent esis → AllByRecursion (λ j. product (w j) (differences esis j) ≡ 1) esis
    → AreWeights IsByte sum_of product 0 1 byte_field point point_byte w esis
are_weights w bytes [] different are = tt
are_weights w bytes (j ∷ esis) different are = (
  ap (product (w j)) (sym (differences_of_others esis j different.0)) ∙ rw (eq-eqb j j refl) at are.0,
  are_weights (λ i. product (w i) (sum_of (point i) (point j))) (λ i. product_byte _ _ (factor_byte i j)) esis different.1
      (fewer_differences w bytes j esis esis different.0 are.1),
)

points_apart : (esis : List ℕ) (j : ℕ) → j < 255 → AllByRecursion (λ i. i < 255) esis → AllByRecursion (λ i. i ≢ j) esis → AllByRecursion (λ i. point i ≢ point j) esis
points_apart [] j lj small others = tt
points_apart (i ∷ esis) j lj small others = (λ e. others.0 (point_apart i j small.0 lj e), points_apart esis j lj small.1 others.1)

are_apart : (esis : List ℕ) → AllByRecursion (λ i. i < 255) esis → AreDifferent esis → AreApart IsByte sum_of product 0 1 byte_field point point_byte esis
are_apart [] small different = tt
are_apart (j ∷ esis) small different = (points_apart esis j small.0 small.1 different.0, are_apart esis small.1 different.1)

inverses : (all esis : List ℕ) → AllByRecursion (λ i. i < 255) all → AllByRecursion (λ i. i < 255) esis
    → AllByRecursion (λ j. product (weight all j) (differences all j) ≡ 1) esis
inverses all [] small own = tt
inverses all (j ∷ esis) small own =
    let b = differences_byte all j in
    let some = differences_some all j small own.0 in (
      byte_field.mul_comm (weight all j) (differences all j) (inverse_byte _ b) b ∙ product_inverse (differences all j) (omega (arith, some)) b,
      inverses all esis small own.1,
    )

sum_is_total : (w v : ℕ → ℕ) (u : ℕ → ℕ) (esis : List ℕ) → AllByRecursion (λ j. v j ≡ u j) esis
    → weighted_sum w v esis ≡ total IsByte sum_of product 0 1 byte_field point point_byte (λ j. product (w j) (u j)) esis
sum_is_total w v u [] same = refl
sum_is_total w v u (j ∷ esis) same =
    ap (λ (x : ℕ). sum_of (product (w j) x) (weighted_sum w v esis)) same.0
    ∙ ap (sum_of (product (w j) (u j))) (sum_is_total w v u esis same.1)

-- the values of a polynomial of fewer coefficients than there are points, each times its weight,
-- add up to zero
pub values_cancel : (k : ℕ) (p esis : List ℕ) (v : ℕ → ℕ) → IsPolynomial k p → k < length esis → AllByRecursion (λ i. i < 255) esis → AreDifferent esis
    → AllByRecursion (λ j. v j ≡ value p (point j)) esis → weighted_sum (weight esis) v esis ≡ 0
values_cancel k p esis v form fewer small different same =
    sum_is_total (weight esis) v (λ j. value p (point j)) esis same
    ∙ values_none IsByte sum_of product 0 1 byte_field point point_byte esis p (weight esis) (omega (arith, form.count, fewer)) (bytes_by_recursion p form.bytes)
    (λ i. inverse_byte _ (differences_byte esis i)) (are_apart esis small different)
    (are_weights (weight esis) (λ i. inverse_byte _ (differences_byte esis i)) esis different (inverses esis esis small small))

-- ---- one ESI more, as a loop meets them

pub weighted_more : (w v : ℕ → ℕ) (esis : List ℕ) (j : ℕ) → weighted_sum w v (esis ++ j ∷ []) ≡ sum_of (weighted_sum w v esis) (product (w j) (v j))
weighted_more w v [] j = xor_comm (product (w j) (v j)) 0
weighted_more w v (i ∷ esis) j =
    ap (sum_of (product (w i) (v i))) (weighted_more w v esis j) ∙ sym (xor_assoc (product (w i) (v i)) (weighted_sum w v esis) (product (w j) (v j)))

pub same_ESI_more : (esis : List ℕ) (i j : ℕ) → (i == j) ≡ true → differences (esis ++ i ∷ []) j ≡ differences esis j
same_ESI_more [] i j same = rw same refl
same_ESI_more (h ∷ esis) i j same = elim (cases_Bool (h == j)) [
  | inl here ↦ rw here (same_ESI_more esis i j same)
  | inr other ↦ rw other (ap (product _) (same_ESI_more esis i j same))
]

pub other_ESI_more : (esis : List ℕ) (i j : ℕ) → (i == j) ≡ false → differences (esis ++ i ∷ []) j ≡ product (differences esis j) (sum_of (point j) (point i))
other_ESI_more [] i j apart = rw apart (byte_field.mul_comm (sum_of (point j) (point i)) 1 (factor_byte j i) (omega arith))
other_ESI_more (h ∷ esis) i j apart = elim (cases_Bool (h == j)) [
  | inl here ↦ rw here (other_ESI_more esis i j apart)
  | inr other ↦
      rw other (ap (product _) (other_ESI_more esis i j apart)
      ∙ sym (byte_field.mul_assoc (sum_of (point j) (point h)) (differences esis j) (sum_of (point j) (point i)) (factor_byte j h) (differences_byte esis j) (factor_byte j i)))
]

pub inverse_is : (a w : ℕ) → a < 256 → w < 256 → a ≢ 0 → product a w ≡ 1 → w ≡ inverse_of a
inverse_is a w ha hw some is =
    let hi = inverse_byte a ha in
    let e1 = byte_field.mul_assoc w a (inverse_of a) hw ha hi in
    let e2 = byte_field.mul_comm w a hw ha in
    let e3 : product a (inverse_of a) ≡ 1 = product_inverse a (omega (arith, some)) ha in
    let e4 = byte_field.mul_one w hw in
    let e5 = byte_field.mul_comm 1 (inverse_of a) (omega arith) hi in
    let e6 = byte_field.mul_one (inverse_of a) hi in
    (cc)

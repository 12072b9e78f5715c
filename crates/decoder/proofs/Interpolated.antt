-- A polynomial with given values at different points, as many as it has coefficients.
use Rattle.std.proofs.Common.{◌≡◌, ◌∙◌, ℕ, suc, ◌<◌, List, [], ◌∷◌, ◌++◌, map, length, length-append, refl, sym, ap, arith}
use Rattle.std.proofs.lemmas.List.{length-map}
use Rattle.std.specs.List.{AllByRecursion}
use Rattle.lists.specs.Bytes.{IsByte}
use Rattle.gf256.specs.Arithmetic.{sum_of, product, point}
use Rattle.gf256.specs.ByteField.{byte_field, point_byte}
use Rattle.gf256.specs.FieldLaws.{IsField}
use Rattle.poly.specs.Polynomial.{value_over, value, AreDifferent, IsPolynomial}
use Rattle.poly.proofs.Bytes.{bytes_from_recursion, different_points}
use Rattle.poly.proofs.Lists.{all_push}
use Rattle.poly.proofs.Product.{roots_over, roots_elements, roots_length, are_roots, not_a_root}
use Rattle.poly.proofs.Roots.{mul_zero, sums_over, sums_elements, sums_length, value_of_sums, value_element}

-- what is so of the points is so of what they are the points of
all_unmapped : {A B : Type 0} (P : B → Type 0) (f : A → B) (xs : List A) → AllByRecursion P (map f xs) → AllByRecursion (λ x. P (f x)) xs
all_unmapped P f [] h = tt
all_unmapped P f (x ∷ xs) h = (h.0, all_unmapped P f xs h.1)

all_elements : {A B : Type 0} (element : B → Type 0) (f : A → B) → ((x : A) → element (f x)) → (xs : List A) → AllByRecursion element (map f xs)
all_elements element f all [] = tt
all_elements element f all (x ∷ xs) = (all x, all_elements element f all xs)

-- over any field, for points that are told by numbers
module _ {F : Type 0} (element : F → Type 0) (add mul : F → F → F) (none one : F) (field : IsField element add mul none one)
    (at : ℕ → F) (at_element : (j : ℕ) → element (at j)) where
  -- a coefficient more that is nothing
  value_widened : (p : List F) (z : F) → AllByRecursion element p → element z → value_over add mul none (p ++ none ∷ []) z ≡ value_over add mul none p z
  unfolding value_over
  value_widened [] z ep ez =
      let e1 = mul_zero element add mul none one field z ez in
      let e2 = field.add_zero none field.zero_element in
      (cc)
  value_widened (c ∷ cs) z ep ez = ap (λ (v : F). add c (mul z v)) (value_widened cs z ep.1 ez)

  scaled_elements : (a : F) (p : List F) → element a → AllByRecursion element p → AllByRecursion element (map (mul a) p)
  scaled_elements a [] ea ep = tt
  scaled_elements a (c ∷ cs) ea ep = (field.mul_element a c ea ep.0, scaled_elements a cs ea ep.1)

  value_scaled : (a : F) (p : List F) (z : F) → element a → AllByRecursion element p → element z → value_over add mul none (map (mul a) p) z ≡ mul a (value_over add mul none p z)
  unfolding value_over
  value_scaled a [] z ea ep ez = sym (mul_zero element add mul none one field a ea)
  value_scaled a (c ∷ cs) z ea ep ez =
      let v = value_over add mul none cs z in
      let ev : element (value_over add mul none cs z) = value_element element add mul none one field cs z ep.1 ez in
      let e1 = value_scaled a cs z ea ep.1 ez in
      let e2 = field.mul_add a c (mul z v) ea ep.0 (field.mul_element z v ez ev) in
      let e3 = field.mul_assoc a z v ea ez ev in
      let e4 = field.mul_assoc z a v ez ea ev in
      let e5 = field.mul_comm a z ea ez in
      (cc)

  -- coefficients that give these values at the points
  record Through (js : List ℕ) (v : ℕ → F) : Type 0 where
    coefficients : List F
    count : length coefficients ≡ length js
    elements : AllByRecursion element coefficients
    values : AllByRecursion (λ j. value_over add mul none coefficients (at j) ≡ v j) js

  module _ (v : ℕ → F) (v_element : (j : ℕ) → element (v j)) (p r : List F) (ep : AllByRecursion element p) (er : AllByRecursion element r) (len : length r ≡ suc (length p)) (a : F) (ea : element a) where
    abbrev more : List F
    more = sums_over add (p ++ none ∷ []) (map (mul a) r)

    widened_elements : AllByRecursion element (p ++ none ∷ [])
    widened_elements = all_push element p none ep field.zero_element

    same_length : length (p ++ none ∷ []) ≡ length (map (mul a) r)
    same_length = omega (arith, length-append p (none ∷ []), length-map r (mul a), len)

    more_count : length (sums_over add (p ++ none ∷ []) (map (mul a) r)) ≡ suc (length p)
    more_count = sums_length element add mul none one field (p ++ none ∷ []) (map (mul a) r) same_length ∙ omega (arith, length-append p (none ∷ []))

    more_elements : AllByRecursion element (sums_over add (p ++ none ∷ []) (map (mul a) r))
    more_elements = sums_elements element add mul none one field (p ++ none ∷ []) (map (mul a) r) widened_elements (scaled_elements a r ea er)

    more_value : (z : F) → element z → value_over add mul none (sums_over add (p ++ none ∷ []) (map (mul a) r)) z ≡ add (value_over add mul none p z) (mul a (value_over add mul none r z))
    more_value z ez =
        let e1 = value_of_sums element add mul none one field (p ++ none ∷ []) (map (mul a) r) z same_length widened_elements (scaled_elements a r ea er) ez in
        let e2 = value_widened p z ep ez in
        let e3 = value_scaled a r z ea er ez in
        (cc)

    -- the values stay where the other is nothing
    values_stay : (js : List ℕ) → AllByRecursion (λ j. value_over add mul none p (at j) ≡ v j) js → AllByRecursion (λ j. value_over add mul none r (at j) ≡ none) js
        → AllByRecursion (λ j. value_over add mul none (sums_over add (p ++ none ∷ []) (map (mul a) r)) (at j) ≡ v j) js
    values_stay [] h gone = tt
    values_stay (j ∷ js) h gone = (
      (let e1 = more_value (at j) (at_element j) in
          let e2 = mul_zero element add mul none one field a ea in
          let e3 = field.add_zero (v j) (v_element j) in
          let e4 = h.0 in
          let e5 = gone.0 in
          (cc)),
      values_stay js h.1 gone.1,
    )

    -- a value that is put right
    value_here : (j : ℕ) (i : F) → element i → mul (value_over add mul none r (at j)) i ≡ one
        → a ≡ mul (add (v j) (value_over add mul none p (at j))) i
        → value_over add mul none (sums_over add (p ++ none ∷ []) (map (mul a) r)) (at j) ≡ v j
    value_here j i ei inverse is =
        let x = value_over add mul none p (at j) in
        let y = value_over add mul none r (at j) in
        let ex : element (value_over add mul none p (at j)) = value_element element add mul none one field p (at j) ep (at_element j) in
        let ey : element (value_over add mul none r (at j)) = value_element element add mul none one field r (at j) er (at_element j) in
        let ed : element (add (v j) (value_over add mul none p (at j))) = field.add_element _ _ (v_element j) ex in
        let e1 = more_value (at j) (at_element j) in
        let e2 = field.mul_assoc (add (v j) x) i y ed ei ey in
        let e3 = field.mul_comm i y ei ey in
        let e4 = field.mul_one (add (v j) x) ed in
        let e5 = field.add_comm (v j) x (v_element j) ex in
        let e6 = field.add_assoc x x (v j) ex ex (v_element j) in
        let e7 = field.add_self x ex in
        let e8 = field.add_comm none (v j) field.zero_element (v_element j) in
        let e9 = field.add_zero (v j) (v_element j) in
        (cc)

  through : (v : ℕ → F) → ((j : ℕ) → element (v j)) → (js : List ℕ) → AreDifferent (map at js) → Through js v
  through v ev [] apart = record { coefficients = []; count = refl; elements = tt; values = tt }
  through v ev (j ∷ js) apart =
      let w = through v ev js apart.1 in
      let ps = map at js in
      let eps : AllByRecursion element (map at js) = all_elements element at at_element js in
      let r = roots_over add mul none one ps in
      let er : AllByRecursion element (roots_over add mul none one (map at js)) = roots_elements element add mul none one field ps eps in
      let len : length (roots_over add mul none one (map at js)) ≡ suc (length w.coefficients) = roots_length element add mul none one field ps ∙ ap suc (length-map js at ∙ sym w.count) in
      let i = field.inverse (value_over add mul none r (at j)) (value_element element add mul none one field r (at j) er (at_element j))
      (not_a_root element add mul none one field ps (at j) eps (at_element j) apart.0) in
      let x = value_over add mul none w.coefficients (at j) in
      let a = mul (add (v j) x) i.0 in
      let ea : element (mul (add (v j) (value_over add mul none w.coefficients (at j))) i.0) =
      field.mul_element _ _ (field.add_element _ _ (ev j) (value_element element add mul none one field w.coefficients (at j) w.elements (at_element j))) i.1 in
      record {
        coefficients = more v ev w.coefficients r w.elements er len a ea;
        count = more_count v ev w.coefficients r w.elements er len a ea ∙ ap suc w.count;
        elements = more_elements v ev w.coefficients r w.elements er len a ea;
        values = (
          value_here v ev w.coefficients r w.elements er len a ea j i.0 i.1 i.2 refl,
          values_stay v ev w.coefficients r w.elements er len a ea js w.values
              (all_unmapped (λ z. value_over add mul none r z ≡ none) at js (are_roots element add mul none one field ps eps)),
        );
      }

-- a polynomial with these values at the points of these ESIs
pub record HasValues (js : List ℕ) (v : ℕ → ℕ) : Type 0 where
  pub polynomial : List ℕ
  pub form : IsPolynomial (length js) polynomial
  pub values : AllByRecursion (λ j. value polynomial (point j) ≡ v j) js

-- there is one through any bytes at the points of different ESIs
pub interpolated : (v : ℕ → ℕ) → ((j : ℕ) → v j < 256) → (js : List ℕ) → AllByRecursion (λ j. j < 255) js → AreDifferent js → HasValues js v
interpolated v ev js small apart =
    let w = through IsByte sum_of product 0 1 byte_field point point_byte v ev js (different_points js small apart) in
    record { polynomial = w.coefficients; form = record { count = w.count; bytes = bytes_from_recursion w.coefficients w.elements }; values = w.values }

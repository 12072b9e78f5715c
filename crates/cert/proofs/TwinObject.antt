-- An object with a polynomial's values added in the first column of a short block is a twin.
use Rattle.std.proofs.Common.{◌≡◌, ◌≢◌, ◌<◌, ◌+◌, ◌-◌, ◌/◌, ℕ, zero, suc, true, false, cond, List, [], ◌∷◌, length, map, get_or, refl, sym, ap, subst, ◌∙◌, inl, inr, arith, ltb-true}
use Rattle.std.specs.Prelude.{slice_index, nat_lt}
use Rattle.std.specs.List.{AllByRecursion}
use Rattle.std.proofs.lemmas.Bool.{cases_lt, ltb-false}
use Rattle.std.proofs.lemmas.List.{ext_get_or, get_or-map, get_or_append_left, get_or_at, length-map}
use Rattle.std.proofs.Math.ListN.{get_or-eq_default}
use Rattle.lists.specs.Bytes.{IsByte, AreBytes}
use Rattle.gf256.specs.Arithmetic.{sum_of, product, point}
use Rattle.gf256.specs.ByteField.{byte_field, point_byte}
use Rattle.poly.specs.Polynomial.{value, IsPolynomial}
use Rattle.poly.proofs.Roots.{value_element}
use Rattle.poly.proofs.Bytes.{bytes_by_recursion}
use Rattle.poly.proofs.Lists.{all_weaker}
use Rattle.lists.specs.Selection.{is_among}
use Rattle.lists.specs.Below.{below}
use Rattle.lists.proofs.Lists.{all_filter}
use Rattle.lists.proofs.Below.{all_below, one_missing, at_passing, length_below}
use Rattle.partition.specs.Fti.{Fti, IsValidFti, source_count, block_count, start_of, source_byte}
use Rattle.partition.proofs.Laws.{counts}
use Rattle.reception.specs.Symbols.{Symbol, Agrees, IsObject}
use Rattle.cert.specs.Twins.{different_esis, root_value, IsTwin}
use Rattle.cert.specs.TwinBytes.{is_first_of, byte_of_twin, twin_bytes}
use Rattle.cert.proofs.Adding.{added}
use Rattle.cert.proofs.Twinning.{vanishing, twin_byte, twin_of, is_first_column, at_place, length_with_places, agrees, twin_form, differs, changed, unchanged}

-- the symbols of an object are bytes
symbol_bytes : (f : Fti) (object : List ℕ) (s : Symbol) → Agrees f object s → AreBytes s.bytes
symbol_bytes f object s a x =
    elim (nat_lt x f.symbol_length) as (λ v. nat_lt x f.symbol_length ≡ v → slice_index s.bytes x < 256) [
      | true ↦ λ e.
          (let c = a.columns x (ltb-true _ _ e) in
          let small = value_element IsByte sum_of product 0 1 byte_field c.polynomial (point s.esi) (bytes_by_recursion c.polynomial c.form.bytes) (point_byte s.esi) in
          subst (λ (y : ℕ). y < 256) c.symbol small)
      | false ↦ λ e.
          (let l = ltb-false _ _ e in
          let z : slice_index s.bytes x ≡ 0 = get_or-eq_default s.bytes 0 (omega (arith, l, a.count)) in
          omega (arith, z))
    ] refl

module _ (f : Fti) (valid : IsValidFti f) (b : ℕ) (hb : b < block_count f) (q : List ℕ) (hq : IsPolynomial (source_count f b) q) where
  added_value : (x : ℕ) → value q (point x) < 256
  added_value x = value_element IsByte sum_of product 0 1 byte_field q (point x) (bytes_by_recursion q hq.bytes) (point_byte x)

  twice : (y v : ℕ) → y < 256 → v < 256 → sum_of (sum_of y v) v ≡ y
  twice y v hy hv =
      let e1 = byte_field.add_assoc y v v hy hv hv in
      let e2 = byte_field.add_self v hv in
      let e3 = byte_field.add_zero y hy in
      (cc)

  -- the twin's twin is the object
  back : (object : List ℕ) → IsObject f object → object ≡ twin_of f b q (twin_of f b q object)
  back object form =
      ext_get_or 0 object (twin_of f b q (twin_of f b q object))
      (sym (length_with_places (twin_byte f b q) 0 (twin_of f b q object) ∙ length_with_places (twin_byte f b q) 0 object))
      (λ x l.
      sym (at_place (twin_byte f b q) 0 (twin_of f b q object) x (omega (arith, l, length_with_places (twin_byte f b q) 0 object))
      ∙ ap (λ (y : ℕ). twin_byte f b q (0 + x) y) (at_place (twin_byte f b q) 0 object x l)
      ∙ both_bytes (0 + x) (get_or object x 0) (form.bytes x)))
    where
      both_bytes : (x y : ℕ) → y < 256 → twin_byte f b q x (twin_byte f b q x y) ≡ y
      both_bytes x y hy =
          elim (is_first_column f b x) as (λ v. cond v (sum_of (cond v (sum_of y (value q (point (x / f.symbol_length - start_of f b)))) y) (value q (point (x / f.symbol_length - start_of f b)))) (cond v (sum_of y (value q (point (x / f.symbol_length - start_of f b)))) y) ≡ y) [
            | true ↦ twice y _ hy (added_value (x / f.symbol_length - start_of f b))
            | false ↦ refl
          ]

  module _ (arrived_esis : List ℕ) (roots : (j : ℕ) → j < 255 → is_among arrived_esis j ≡ true → value q (point j) ≡ 0) where
    -- what agrees with an object agrees with its twin
    agrees_too : (object : List ℕ) → IsObject f object → (s : Symbol) → (s.block ≡ b → is_among arrived_esis s.esi ≡ true) → Agrees f object s → Agrees f (twin_of f b q object) s
    agrees_too object form s listed a =
        let small : s.esi < 255 = (let e = a.esi in let n = (counts f valid s.block a.block).2 in omega (arith, e, n)) in
        (agrees f valid object q form b hb hq (s ∷ []) ((symbol_bytes f object s a, λ e. roots s.esi small (listed e)), tt) (a, tt)).0

    alike : (object : List ℕ) → IsObject f object → (s : Symbol) → (s.block ≡ b → is_among arrived_esis s.esi ≡ true)
        → (Agrees f object s → Agrees f (twin_of f b q object) s) × (Agrees f (twin_of f b q object) s → Agrees f object s)
    alike object form s listed = (
      agrees_too object form s listed,
      λ a. subst (λ (o : List ℕ). Agrees f o s) (sym (back object form)) (agrees_too (twin_of f b q object) (twin_form f valid object q form b hb hq) s listed a),
    )

    -- a twin of the object, where the added polynomial has these values
    made : (object : List ℕ) → IsObject f object → (i : ℕ) → i < source_count f b → value q (point i) ≢ 0
        → ((z : ℕ) → z < 256 → value q z ≡ root_value arrived_esis z) → IsTwin f b arrived_esis object (twin_of f b q object)
    made object form i hi apart same = record {
      form = twin_form f valid object q form b hb hq;
      differ = differs f valid object q form b hb hq i hi apart;
      changed = λ n hn. changed f valid object q form b hb n hn ∙ ap (λ (y : ℕ). sum_of (source_byte f object b n 0) y) (same (point n) (point_byte n));
      unchanged = unchanged f valid object q form b hb;
      alike = alike object form;
    }

  -- an object whose bytes are the twin's
  same_bytes : (object other p : List ℕ) → length other ≡ length object → ((j : ℕ) → value p (point j) ≡ value q (point j))
      → ((x : ℕ) → x < length object → get_or other x 0 ≡ added f.symbol_length (start_of f b) (source_count f b) (λ j. value p (point j)) object x)
      → other ≡ twin_of f b q object
  same_bytes object other p len values bytes =
      ext_get_or 0 other (twin_of f b q object) (len ∙ sym (length_with_places (twin_byte f b q) 0 object))
      (λ x l.
      bytes x (omega (arith, l, len))
      ∙ ap (λ (v : ℕ). cond (is_first_of f.symbol_length (start_of f b) (source_count f b) x) (sum_of (get_or object x 0) v) (get_or object x 0)) (values (x / f.symbol_length - start_of f b))
      ∙ sym (at_place (twin_byte f b q) 0 object x (omega (arith, l, len)) ∙ (let z : 0 + x ≡ x = omega arith in ap (λ (n : ℕ). twin_byte f b q n (get_or object x 0)) z)))

-- a polynomial whose values are the product's
record Roots (f : Fti) (b : ℕ) (arrived_esis : List ℕ) : Type 0 where
  polynomial : List ℕ
  is : IsPolynomial (source_count f b) polynomial
  roots : (j : ℕ) → j < 255 → is_among arrived_esis j ≡ true → value polynomial (point j) ≡ 0
  symbol : ℕ
  inside : symbol < source_count f b
  apart : value polynomial (point symbol) ≢ 0
  values : (z : ℕ) → z < 256 → value polynomial z ≡ root_value arrived_esis z

there_is : (f : Fti) → IsValidFti f → (b : ℕ) → b < block_count f → (arrived_esis : List ℕ) → length (different_esis arrived_esis) < source_count f b → Roots f b arrived_esis
there_is f valid b hb arrived_esis few =
    let n = counts f valid b hb in
    let gap = one_missing (is_among arrived_esis) (source_count f b) 255 (omega (arith, n.1)) few in
    let passing : AllByRecursion (λ j. (is_among arrived_esis j ≡ true) × (j < 255)) (different_esis arrived_esis) =
    all_filter (λ j. j < 255) (is_among arrived_esis) (below 255) (all_below (λ j. j < 255) 255 (λ j h. h)) in
    let small : AllByRecursion (λ j. j < 255) (different_esis arrived_esis) =
    all_weaker (λ j. (is_among arrived_esis j ≡ true) × (j < 255)) (λ j. j < 255) (λ j h. h.1) _ passing in
    let apart : AllByRecursion (λ j. j ≢ gap.0) (different_esis arrived_esis) =
    all_weaker (λ j. (is_among arrived_esis j ≡ true) × (j < 255)) (λ j. j ≢ gap.0)
    (λ j h e. let x = subst (λ (y : ℕ). is_among arrived_esis y ≡ true) e h.0 in let g = gap.2 in absurd (cc)) _ passing in
    let w = vanishing (source_count f b) gap.0 (different_esis arrived_esis) few (omega (arith, gap.1, n.1)) small apart in
    record {
      polynomial = w.0;
      is = w.1;
      roots = at_passing (λ j. value w.0 (point j) ≡ 0) (is_among arrived_esis) 255 w.2;
      symbol = gap.0;
      inside = gap.1;
      apart = w.3;
      values = w.4;
    }

-- what the code makes is a twin
pub is_twin : (f : Fti) → IsValidFti f → (b : ℕ) → b < block_count f → (arrived_esis object other p : List ℕ) → IsObject f object → length (different_esis arrived_esis) < source_count f b
    → ((z : ℕ) → z < 256 → value p z ≡ root_value arrived_esis z) → length other ≡ length object
    → ((x : ℕ) → x < length object → get_or other x 0 ≡ added f.symbol_length (start_of f b) (source_count f b) (λ j. value p (point j)) object x)
    → IsTwin f b arrived_esis object other
is_twin f valid b hb arrived_esis object other p form few values len bytes =
    let w = there_is f valid b hb arrived_esis few in
    subst (λ (o : List ℕ). IsTwin f b arrived_esis object o)
    (sym (same_bytes f valid b hb w.polynomial w.is object other p len (λ j. values (point j) (point_byte j) ∙ sym (w.values (point j) (point_byte j))) bytes))
    (made f valid b hb w.polynomial w.is arrived_esis w.roots object form w.symbol w.inside w.apart w.values)

number_at : (n i : ℕ) → i < n → get_or (below n) i 0 ≡ i
unfolding below
number_at zero i l = absurd (omega arith)
number_at (suc n) i l = elim (cases_lt i n) [
  | inl lt ↦ get_or_append_left (below n) (n ∷ []) 0 i (omega (arith, lt, length_below n)) ∙ number_at n i lt
  | inr ge ↦ let e : n ≡ i = omega (arith, l, ge) in get_or_at (below n) n [] 0 i (length_below n ∙ e) ∙ e
]

-- the bytes that the code makes are those of the definition
pub same_twin : (f : Fti) (b : ℕ) (arrived_esis object other p : List ℕ) → ((z : ℕ) → z < 256 → value p z ≡ root_value arrived_esis z) → length other ≡ length object
    → ((x : ℕ) → x < length object → get_or other x 0 ≡ added f.symbol_length (start_of f b) (source_count f b) (λ j. value p (point j)) object x)
    → other ≡ twin_bytes f b arrived_esis object
unfolding twin_bytes
same_twin f b arrived_esis object other p values len bytes =
    let many : length (below (length object)) ≡ length object = length_below (length object) in
    ext_get_or 0 other (map (byte_of_twin f b arrived_esis object) (below (length object)))
    (len ∙ sym (length-map (below (length object)) (byte_of_twin f b arrived_esis object) ∙ many))
    (λ x l.
    bytes x (omega (arith, l, len))
    ∙ ap (λ (v : ℕ). cond (is_first_of f.symbol_length (start_of f b) (source_count f b) x) (sum_of (get_or object x 0) v) (get_or object x 0))
    (values (point (x / f.symbol_length - start_of f b)) (point_byte (x / f.symbol_length - start_of f b)))
    ∙ sym (get_or-map (byte_of_twin f b arrived_esis object) (below (length object)) x 0 0 (omega (arith, l, len, many))
    ∙ ap (byte_of_twin f b arrived_esis object) (number_at (length object) x (omega (arith, l, len)))))

-- and those are a twin
pub is_twin_bytes : (f : Fti) → IsValidFti f → (b : ℕ) → b < block_count f → (arrived_esis object : List ℕ) → IsObject f object → length (different_esis arrived_esis) < source_count f b
    → IsTwin f b arrived_esis object (twin_bytes f b arrived_esis object)
is_twin_bytes f valid b hb arrived_esis object form few =
    let w = there_is f valid b hb arrived_esis few in
    subst (λ (o : List ℕ). IsTwin f b arrived_esis object o)
    (same_twin f b arrived_esis object (twin_of f b w.polynomial object) w.polynomial w.values (length_with_places (twin_byte f b w.polynomial) 0 object)
    (λ x l. at_place (twin_byte f b w.polynomial) 0 object x l ∙ (let z : 0 + x ≡ x = omega arith in ap (λ (n : ℕ). twin_byte f b w.polynomial n (get_or object x 0)) z)))
    (made f valid b hb w.polynomial w.is arrived_esis w.roots object form w.symbol w.inside w.apart w.values)

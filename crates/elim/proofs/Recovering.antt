-- The part of a generator matrix in the missing rows and the repair columns isn't singular, and its
-- inverse recovers.
use Rattle.std.proofs.Common.{◌≡◌, ◌≢◌, ℕ, ◌<◌, ◌≤◌, List, [], ◌∷◌, length, get_or, arith, ap, ◌∙◌, sym, refl, inl, inr}
use Rattle.std.specs.List.{AllByRecursion}
use Rattle.std.proofs.lemmas.List.{get_or-take}
use Rattle.lists.specs.Bytes.{IsByte, AreBytes}
use Rattle.gf256.specs.Arithmetic.{sum_of, product, point}
use Rattle.gf256.specs.ByteField.{byte_field, point_byte, point_apart}
use Rattle.poly.specs.Polynomial.{value, value_over, IsWord, AreDifferent}
use Rattle.poly.proofs.Bytes.{bytes_by_recursion, bytes_from_recursion}
use Rattle.poly.proofs.Lists.{all_from_places, different_from_places}
use Rattle.poly.proofs.Roots.{mul_zero, none_from_roots}
use Rattle.gf256.specs.Sums.{row_times}
use Rattle.elim.specs.Matrices.{identity_entry, AreElements}
use Rattle.elim.specs.Grid.{Grid, entry, row_product, HasElements}
use Rattle.elim.specs.Generator.{Encodes}
use Rattle.elim.specs.Erasures.{AreErasures, Recovers, part_entry}
use Rattle.elim.proofs.Sums.{sum_same, sum_none, sum_one_place}
use Rattle.elim.proofs.RowTimes.{unit_here, unit_there, unit_element, unit_swapped, dot_element, dot_same, dot_picks, picks_dot, row_times_twice}
use Rattle.elim.proofs.Interpolation.{listed, length-listed, listed_elements}
use Rattle.elim.proofs.Interpolating.{get_or-listed}
use Rattle.elim.proofs.Entries.{elements_by_row}
use Rattle.elim.proofs.RowProducts.{get_or-row_product}
use Rattle.elim.proofs.Rising.{place_same}
use Rattle.elim.proofs.Replacing.{replaced, kept_or_replaced, replaced_apart}
use Rattle.elim.specs.Squares.{AreInverseSquares, IsSingularSquare}

-- the value of a polynomial whose coefficients are zero
value_none : (p : List ℕ) (z : ℕ) → IsByte z → AllByRecursion (λ c. c ≡ 0) p → value p z ≡ 0
unfolding value_over
value_none [] z ez h = refl
value_none (c ∷ cs) z ez h =
    let e1 = value_none cs z ez h.1 in
    let e2 = mul_zero IsByte sum_of product 0 1 byte_field z ez in
    let e3 = byte_field.add_zero 0 byte_field.zero_element in
    let e4 = h.0 in
    (cc)

module _ (g : Grid ℕ) (bytes : HasElements IsByte 0 g) (few : g.cols ≤ 255) (code : Encodes g.rows g.cols g) (missing repair : List ℕ) (h : AreErasures g.rows g.cols missing repair) where
  eg : (i : ℕ) → AreElements IsByte (entry 0 g i)
  eg = elements_by_row IsByte 0 g bytes

  unit_rows : (i : ℕ) → AreElements IsByte (identity_entry 0 1 (get_or missing i 0))
  unit_rows i = unit_element IsByte sum_of product 0 1 byte_field (get_or missing i 0)

  -- the row of source symbols that has u at the missing places, and zero elsewhere
  abbrev spread : (ℕ → ℕ) → ℕ → ℕ
  spread u = row_times sum_of product 0 u (λ i. identity_entry 0 1 (get_or missing i 0)) (length missing)

  spread_bytes : (u : ℕ → ℕ) → AreElements IsByte u → AreElements IsByte (spread u)
  spread_bytes u eu m = dot_element IsByte sum_of product 0 1 byte_field u (λ i. identity_entry 0 1 (get_or missing i 0) m) (length missing) eu (λ i. unit_rows i m)

  spread_missing : (u : ℕ → ℕ) → AreElements IsByte u → (a : ℕ) → a < length missing → spread u (get_or missing a 0) ≡ u a
  spread_missing u eu a la =
      sum_one_place IsByte sum_of product 0 1 byte_field (λ i. product (u i) (identity_entry 0 1 (get_or missing i 0) (get_or missing a 0))) (length missing) a la
      (byte_field.mul_element _ _ (eu a) (unit_rows a (get_or missing a 0)))
      (λ i li ne. ap (product (u i)) (unit_there 0 1 (get_or missing i 0) (get_or missing a 0) (λ e. ne (place_same missing h.missing_rise i a li la e))) ∙ mul_zero IsByte sum_of product 0 1 byte_field (u i) (eu i))
      ∙ ap (product (u a)) (unit_here 0 1 (get_or missing a 0) (get_or missing a 0) refl) ∙ byte_field.mul_one (u a) (eu a)

  spread_others : (u : ℕ → ℕ) → AreElements IsByte u → (m : ℕ) → ((a : ℕ) → a < length missing → get_or missing a 0 ≢ m) → spread u m ≡ 0
  spread_others u eu m apart =
      sum_none IsByte sum_of product 0 1 byte_field (λ i. product (u i) (identity_entry 0 1 (get_or missing i 0) m)) (length missing)
      (λ i li. ap (product (u i)) (unit_there 0 1 (get_or missing i 0) m (apart i li)) ∙ mul_zero IsByte sum_of product 0 1 byte_field (u i) (eu i))

  -- that row times the generator is u times the missing rows
  spread_times : (u : ℕ → ℕ) → AreElements IsByte u → (j : ℕ) → row_times sum_of product 0 (spread u) (entry 0 g) g.rows j ≡ row_times sum_of product 0 u (λ i. entry 0 g (get_or missing i 0)) (length missing) j
  spread_times u eu j =
      row_times_twice IsByte sum_of product 0 1 byte_field u (λ i. identity_entry 0 1 (get_or missing i 0)) (entry 0 g) (length missing) g.rows j eu unit_rows eg
      ∙ dot_same IsByte sum_of product 0 1 byte_field u (λ i. row_times sum_of product 0 (identity_entry 0 1 (get_or missing i 0)) (entry 0 g) g.rows j) (λ i. entry 0 g (get_or missing i 0) j) (length missing)
      (λ i li. picks_dot IsByte sum_of product 0 1 byte_field (λ m. entry 0 g m j) g.rows (get_or missing i 0) (λ m. eg m j) (h.source i li))

  -- the same of each row that is zero at the other places
  pub spread_sum : (d : ℕ → ℕ) → AreElements IsByte d → ((i : ℕ) → i < g.rows → ((a : ℕ) → a < length missing → get_or missing a 0 ≢ i) → d i ≡ 0) → (j : ℕ)
      → row_times sum_of product 0 d (entry 0 g) g.rows j ≡ row_times sum_of product 0 (λ a. d (get_or missing a 0)) (λ i. entry 0 g (get_or missing i 0)) (length missing) j
  spread_sum d ed none j =
      sum_same IsByte sum_of product 0 1 byte_field (λ i. product (d i) (entry 0 g i j)) (λ i. product (spread (λ a. d (get_or missing a 0)) i) (entry 0 g i j)) g.rows
      (λ i li. ap (λ (v : ℕ). product v (entry 0 g i j)) (elim (kept_or_replaced (λ a. get_or missing a 0) (λ a. get_or repair a 0) (length missing) i) [
        | inl kept ↦ none i li kept.apart ∙ sym (spread_others (λ a. d (get_or missing a 0)) (λ a. ed (get_or missing a 0)) i kept.apart)
        | inr gone ↦ ap d (sym gone.from) ∙ sym (spread_missing (λ a. d (get_or missing a 0)) (λ a. ed (get_or missing a 0)) gone.place gone.inside)
            ∙ ap (spread (λ a. d (get_or missing a 0))) gone.from
      ]))
      ∙ spread_times (λ a. d (get_or missing a 0)) (λ a. ed (get_or missing a 0)) j

  abbrev source : (ℕ → ℕ) → List ℕ
  source u = listed (spread u) g.rows

  abbrev word : (ℕ → ℕ) → List ℕ
  word u = row_product sum_of product 0 (source u) g

  source_bytes : (u : ℕ → ℕ) → AreElements IsByte u → AreBytes (source u)
  source_bytes u eu = bytes_from_recursion (source u) (listed_elements IsByte (spread u) g.rows (spread_bytes u eu))

  is_word : (u : ℕ → ℕ) → AreElements IsByte u → IsWord g.rows g.cols (word u)
  is_word u eu = code.word (source u) (length-listed (spread u) g.rows) (source_bytes u eu)

  word_front : (u : ℕ → ℕ) → AreElements IsByte u → (j : ℕ) → j < g.rows → get_or (word u) j 0 ≡ spread u j
  word_front u eu j lj =
      sym (get_or-take g.rows (word u) j 0 lj)
      ∙ ap (λ (l : List ℕ). get_or l j 0) (code.begins (source u) (length-listed (spread u) g.rows) (source_bytes u eu))
      ∙ get_or-listed (spread u) g.rows j lj

  word_repair : (u : ℕ → ℕ) → AreElements IsByte u → (a : ℕ) → a < length missing
      → get_or (word u) (get_or repair a 0) 0 ≡ row_times sum_of product 0 u (part_entry g missing repair) (length missing) a
  word_repair u eu a la =
      let inside : get_or repair a 0 < g.cols = h.within a (omega (arith, h.count)) in
      get_or-row_product sum_of product 0 (source u) g (get_or repair a 0) inside
      ∙ sum_same IsByte sum_of product 0 1 byte_field (λ i. product (get_or (source u) i 0) (entry 0 g i (get_or repair a 0))) (λ i. product (spread u i) (entry 0 g i (get_or repair a 0))) g.rows
      (λ i li. ap (λ (v : ℕ). product v (entry 0 g i (get_or repair a 0))) (get_or-listed (spread u) g.rows i li))
      ∙ spread_times u eu (get_or repair a 0)

  -- the ESIs of k symbols: those of the source symbols that came, and the repair symbols in place
  -- of the others
  abbrev esi : ℕ → ℕ
  esi = replaced (λ a. get_or missing a 0) (λ a. get_or repair a 0) (length missing)

  abbrev points : List ℕ
  points = listed (λ i. point (esi i)) g.rows

  wide : g.rows < g.cols
  wide = let some = h.some in let past = h.beyond 0 (omega (arith, h.count)) in let inside = h.within 0 (omega (arith, h.count)) in omega arith

  esi_within : (i : ℕ) → i < g.rows → esi i < g.cols
  esi_within i li = elim (kept_or_replaced (λ a. get_or missing a 0) (λ a. get_or repair a 0) (length missing) i) [
    | inl kept ↦ omega (arith, kept.same, wide)
    | inr gone ↦ (let e = gone.to in let inside = h.within gone.place (omega (arith, gone.inside, h.count)) in omega arith)
  ]

  points_apart : AreDifferent points
  points_apart = different_from_places 0 points (λ i j lt lj e.
      let inside : j < g.rows = omega (arith, length-listed (λ (m : ℕ). point (esi m)) g.rows) in
      let inside2 : i < g.rows = omega arith in
      let wj = esi_within j inside in
      let wi = esi_within i inside2 in
      let same : esi j ≡ esi i = point_apart (esi j) (esi i) (omega arith) (omega arith)
      (sym (get_or-listed (λ m. point (esi m)) g.rows j inside) ∙ e ∙ get_or-listed (λ m. point (esi m)) g.rows i inside2) in
      let one : j ≡ i = replaced_apart g.rows g.cols missing repair h j i inside inside2 same in
      omega arith)

  module _ (u : ℕ → ℕ) (eu : AreElements IsByte u) (gone : (j : ℕ) → j < length missing → row_times sum_of product 0 u (part_entry g missing repair) (length missing) j ≡ 0) where
    -- the word is zero at k symbols
    word_none : (i : ℕ) → i < g.rows → get_or (word u) (esi i) 0 ≡ 0
    word_none i li = elim (kept_or_replaced (λ a. get_or missing a 0) (λ a. get_or repair a 0) (length missing) i) [
      | inl kept ↦ ap (λ (j : ℕ). get_or (word u) j 0) kept.same ∙ word_front u eu i li ∙ spread_others u eu i kept.apart
      | inr other ↦ ap (λ (j : ℕ). get_or (word u) j 0) other.to ∙ word_repair u eu other.place other.inside ∙ gone other.place other.inside
    ]

    -- so its polynomial is zero
    coefficients_none : AllByRecursion (λ c. c ≡ 0) (is_word u eu).polynomial.0
    coefficients_none =
        let p = (is_word u eu).polynomial in
        none_from_roots IsByte sum_of product 0 1 byte_field points p.0
        (p.1.count ∙ sym (length-listed (λ i. point (esi i)) g.rows))
        (bytes_by_recursion p.0 p.1.bytes)
        (listed_elements IsByte (λ i. point (esi i)) g.rows (λ i. point_byte (esi i)))
        points_apart
        (all_from_places (λ z. value p.0 z ≡ 0) 0 points (λ i lt.
        let li : i < g.rows = omega (arith, length-listed (λ (m : ℕ). point (esi m)) g.rows) in
        ap (λ (z : ℕ). value p.0 z) (get_or-listed (λ m. point (esi m)) g.rows i li)
        ∙ p.2 (esi i) (esi_within i li) ∙ word_none i li))

    pub part_whole : (a : ℕ) → a < length missing → u a ≡ 0
    part_whole a la =
        let p = (is_word u eu).polynomial in
        let front = h.source a la in
        let inside : get_or missing a 0 < g.cols = omega (arith, wide) in
        sym (spread_missing u eu a la) ∙ sym (word_front u eu (get_or missing a 0) front)
        ∙ sym (p.2 (get_or missing a 0) inside) ∙ value_none p.0 (point (get_or missing a 0)) (point_byte (get_or missing a 0)) coefficients_none

  -- the part isn't singular
  pub part_regular : (m : ℕ → ℕ → ℕ) → ((i j : ℕ) → i < length missing → j < length missing → m i j ≡ part_entry g missing repair i j)
      → IsSingularSquare IsByte sum_of product 0 (length missing) m → ⊥
  part_regular m same s =
      s.apart (part_whole s.row s.elements
      (λ j lj. sym (dot_same IsByte sum_of product 0 1 byte_field s.row (λ i. m i j) (λ i. part_entry g missing repair i j) (length missing) (λ i li. same i j li lj)) ∙ s.gone j lj)
      s.place s.within)

-- an inverse of the part recovers
pub part_recovers : (g : Grid ℕ) → HasElements IsByte 0 g → (missing repair : List ℕ) (inverted w : Grid ℕ)
    → ((i j : ℕ) → i < length missing → j < length missing → entry 0 inverted i j ≡ part_entry g missing repair i j) → HasElements IsByte 0 w
    → AreInverseSquares sum_of product 0 1 (length missing) (entry 0 inverted) (entry 0 w) → Recovers g missing repair w
part_recovers g bytes missing repair inverted w same elements both = record {
  back = λ x ex a la.
      row_times_twice IsByte sum_of product 0 1 byte_field x (part_entry g missing repair) (entry 0 w) (length missing) (length missing) a ex
      (λ i j. elements_by_row IsByte 0 g bytes (get_or missing i 0) (get_or repair j 0)) (elements_by_row IsByte 0 w elements)
      ∙ dot_same IsByte sum_of product 0 1 byte_field x (λ i. row_times sum_of product 0 (part_entry g missing repair i) (entry 0 w) (length missing) a) (identity_entry 0 1 a) (length missing)
      (λ i li.
      sum_same IsByte sum_of product 0 1 byte_field (λ l. product (part_entry g missing repair i l) (entry 0 w l a)) (λ l. product (entry 0 inverted i l) (entry 0 w l a)) (length missing)
      (λ l ll. ap (λ (v : ℕ). product v (entry 0 w l a)) (sym (same i l li ll)))
      ∙ both.right i a li la ∙ unit_swapped IsByte sum_of product 0 1 byte_field i a)
      ∙ dot_picks IsByte sum_of product 0 1 byte_field x (length missing) a ex la;
  forth = λ s es m lm.
      row_times_twice IsByte sum_of product 0 1 byte_field s (entry 0 w) (part_entry g missing repair) (length missing) (length missing) m es
      (elements_by_row IsByte 0 w elements) (λ i j. elements_by_row IsByte 0 g bytes (get_or missing i 0) (get_or repair j 0))
      ∙ dot_same IsByte sum_of product 0 1 byte_field s (λ i. row_times sum_of product 0 (entry 0 w i) (part_entry g missing repair) (length missing) m) (identity_entry 0 1 m) (length missing)
      (λ i li.
      sum_same IsByte sum_of product 0 1 byte_field (λ l. product (entry 0 w i l) (part_entry g missing repair l m)) (λ l. product (entry 0 w i l) (entry 0 inverted l m)) (length missing)
      (λ l ll. ap (product (entry 0 w i l)) (sym (same l m ll lm)))
      ∙ both.left i m li lm ∙ unit_swapped IsByte sum_of product 0 1 byte_field i m)
      ∙ dot_picks IsByte sum_of product 0 1 byte_field s (length missing) m es lm;
}

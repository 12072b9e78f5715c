-- Where coefficients stand that are told column by column.
use Rattle.std.specs.Prelude.{flat_map, slice_index}
use Rattle.std.proofs.Common.{◌≡◌, ℕ, zero, suc, ◌+◌, ◌-◌, ◌*◌, ◌/◌, ◌%◌, ◌<◌, ◌≤◌, List, ◌++◌, None, length, refl, sym, ap, ◌∙◌, inl, inr, arith, length-append}
use Rattle.std.proofs.Math.Nat.{mul-le-mul_right, mul_comm, mod-lt, div-lt_iff_lt-mul}
use Rattle.std.proofs.lemmas.Nat.{div-add-mod'}
use Rattle.std.proofs.lemmas.Bool.{cases_lt}
use Rattle.std.proofs.lemmas.Grind.{same_number_lists}
use Rattle.std.proofs.lemmas.List.{get_or_append_left, get_or-append_right}
use Rattle.lists.specs.Below.{below}
use Rattle.gf256.proofs.RowPlaces.{rows_apart, row_ends}
use Rattle.partition.specs.Fti.{Fti, IsValidFti, block_count, source_count, start_of, source_place}
use Rattle.partition.proofs.Laws.{some_source, start_step, start_end, rising_to}
use Rattle.certificate.specs.Certificate.{Certificate, coefficient, coefficient_count, polynomial, block_columns, coefficients_text, unnamed}
use Rattle.certificate.specs.CoefficientRows.{text_place}
use Rattle.certificate.proofs.Flat.{none_yet, next_part, with_next}
use Rattle.certificate.proofs.Polynomials.{length_polynomial, coefficient_at}

-- part i of a list that is made of parts, read at a place of it
pub in_part : (f : ℕ → List ℕ) (i n at j : ℕ) → i < n → length (flat_map f (below i)) ≡ at → j < length (f i)
    → slice_index (flat_map f (below n)) (at + j) ≡ slice_index (f i) j
in_part f i n at j less before inside =
    let w = with_next f i n less in
    let front = flat_map f (below i) in
    let back : at + j - at ≡ j = omega arith in
    ap (λ (l : List ℕ). slice_index l (at + j)) w.1
    ∙ get_or_append_left (front ++ f i) w.0 0 (at + j) (omega (arith, before, inside, length-append front (f i)))
    ∙ get_or-append_right front (f i) at (at + j) 0 before (omega arith) ∙ ap (slice_index (f i)) back

module _ (z : Certificate) where
  -- the columns before one
  length_columns : (b n : ℕ) → length (flat_map (polynomial z b) (below n)) ≡ n * source_count z.fti b
  length_columns b zero = (let none = ap length (none_yet (polynomial z b)) in omega (arith, none))
  length_columns b (suc n) =
      let e : n + 1 ≡ suc n = omega arith in
      ap (λ (m : ℕ). length (flat_map (polynomial z b) (below m))) (sym e)
      ∙ ap length (next_part (polynomial z b) n) ∙ length-append (flat_map (polynomial z b) (below n)) (polynomial z b n)
      ∙ omega (arith, length_columns b n, length_polynomial z b n)

  module _ (valid : IsValidFti z.fti) where
    none_before : start_of z.fti 0 ≡ 0
    unfolding start_of
    none_before = refl

    -- the blocks before one
    length_blocks : (n : ℕ) → length (flat_map (block_columns z) (below n)) ≡ start_of z.fti n * z.fti.symbol_length
    length_blocks zero = (let none = ap length (none_yet (block_columns z)) in let at = ap (λ (n : ℕ). n * z.fti.symbol_length) none_before in omega (arith, none, at))
    length_blocks (suc n) =
        let e : n + 1 ≡ suc n = omega arith in
        let step = ap (λ (m : ℕ). m * z.fti.symbol_length) (start_step z.fti valid n) ∙ rows_apart (start_of z.fti n) (source_count z.fti n) z.fti.symbol_length in
        let turned = mul_comm z.fti.symbol_length (source_count z.fti n) in
        ap (λ (m : ℕ). length (flat_map (block_columns z) (below m))) (sym e)
        ∙ ap length (next_part (block_columns z) n) ∙ length-append (flat_map (block_columns z) (below n)) (block_columns z n)
        ∙ omega (arith, length_blocks n, length_columns n z.fti.symbol_length, step, turned)

    pub length_text : length (coefficients_text None z) ≡ coefficient_count z.fti
    length_text = length_blocks (block_count z.fti) ∙ ap (λ (n : ℕ). n * z.fti.symbol_length) (start_end z.fti valid)

    -- each coefficient at its place
    pub text_at : (b c i : ℕ) → b < block_count z.fti → c < z.fti.symbol_length → i < source_count z.fti b
        → slice_index (coefficients_text None z) (text_place z.fti b c i) ≡ coefficient z b c i
    text_at b c i hb hc hi =
        let ends = row_ends c z.fti.symbol_length (source_count z.fti b) hc in
        in_part (block_columns z) b (block_count z.fti) (start_of z.fti b * z.fti.symbol_length) (c * source_count z.fti b + i) hb (length_blocks b)
        (omega (arith, length_columns b z.fti.symbol_length, ends, hi))
        ∙ in_part (polynomial z b) c z.fti.symbol_length (c * source_count z.fti b) i hc (length_columns b c) (omega (arith, hi, length_polynomial z b c))
        ∙ coefficient_at z b c i hi

-- a place among them
pub record TextPlace (f : Fti) (p : ℕ) : Type 0 where
  pub block : ℕ
  pub column : ℕ
  pub row : ℕ
  pub in_blocks : block < block_count f
  pub in_columns : column < f.symbol_length
  pub in_rows : row < source_count f block
  pub is : text_place f block column row ≡ p

module _ (f : Fti) (valid : IsValidFti f) where
  locate : (n p : ℕ) → p < start_of f n * f.symbol_length
      → (b : ℕ) × (b < n) × (start_of f b * f.symbol_length ≤ p) × (p < start_of f b * f.symbol_length + source_count f b * f.symbol_length)
  unfolding start_of
  locate zero p inside = absurd (omega (arith, inside))
  locate (suc n) p inside = elim (cases_lt p (start_of f n * f.symbol_length)) [
    | inl before ↦ (let w = locate n p before in (w.0, omega (arith, w.1), w.2, w.3))
    | inr here ↦ (n, omega arith, here, (let apart = rows_apart (start_of f n) (source_count f n) f.symbol_length in omega (arith, inside, apart)))
  ]

  pub place_in_text : (p : ℕ) → p < coefficient_count f → TextPlace f p
  place_in_text p inside =
      let whole = ap (λ (n : ℕ). n * f.symbol_length) (start_end f valid) in
      let w = locate (block_count f) p (omega (arith, inside, whole)) in
      let k = source_count f w.0 in
      let some = some_source f valid w.0 in
      let q = p - start_of f w.0 * f.symbol_length in
      let turned = mul_comm f.symbol_length (source_count f w.0) in
      let split = div-add-mod' (p - start_of f w.0 * f.symbol_length) (source_count f w.0) in
      record {
        block = w.0;
        column = q / k;
        row = q % k;
        in_blocks = w.1;
        in_columns = (div-lt_iff_lt-mul {k = k} {x = q} {y = f.symbol_length} (omega (arith, some))).1 (omega (arith, w.2, w.3, turned));
        in_rows = mod-lt q (omega (arith, some));
        is = omega (arith, split, w.2);
      }

  -- bytes that have each coefficient at its place are the text of the rows
  pub is_text : (text rows : List ℕ) → length text ≡ coefficient_count f
      → ((a i c : ℕ) → a < block_count f → i < source_count f a → c < f.symbol_length → slice_index rows (source_place f a i c) ≡ slice_index text (text_place f a c i))
      → text ≡ coefficients_text None (unnamed f rows)
  is_text text rows long turned =
      same_number_lists text (coefficients_text None (unnamed f rows)) (long ∙ sym (length_text (unnamed f rows) valid))
      (λ p lp.
      let w = place_in_text p (omega (arith, lp, long)) in
      ap (slice_index text) (sym w.is) ∙ sym (turned w.block w.row w.column w.in_blocks w.in_rows w.in_columns)
      ∙ sym (text_at (unnamed f rows) valid w.block w.column w.row w.in_blocks w.in_columns w.in_rows) ∙ ap (slice_index (coefficients_text None (unnamed f rows))) w.is)

  -- a row of a block before another
  pub place_before : (a b i c : ℕ) → a < b → i < source_count f a → c < f.symbol_length → source_place f a i c < start_of f b * f.symbol_length
  place_before a b i c less li lc =
      let s = start_step f valid a in
      let r = rising_to f valid (suc a) b (omega (arith, less)) in
      let m : (start_of f a + i + 1) * f.symbol_length ≤ start_of f b * f.symbol_length = mul-le-mul_right f.symbol_length (let l : start_of f a + i + 1 ≤ start_of f b = omega (arith, s, r, li) in l) in
      omega (arith, m, lc)

-- a place among the rows
pub record RowPlace (f : Fti) (p : ℕ) : Type 0 where
  pub block : ℕ
  pub column : ℕ
  pub row : ℕ
  pub in_blocks : block < block_count f
  pub in_columns : column < f.symbol_length
  pub in_rows : row < source_count f block
  pub is : source_place f block row column ≡ p

module _ (f : Fti) (valid : IsValidFti f) where
  pub place_in_rows : (p : ℕ) → p < coefficient_count f → RowPlace f p
  place_in_rows p inside =
      let whole = ap (λ (n : ℕ). n * f.symbol_length) (start_end f valid) in
      let w = locate f valid (block_count f) p (omega (arith, inside, whole)) in
      let q = p - start_of f w.0 * f.symbol_length in
      let e = f.symbol_length in
      let split = div-add-mod' (p - start_of f w.0 * f.symbol_length) f.symbol_length in
      let apart = rows_apart (start_of f w.0) ((p - start_of f w.0 * f.symbol_length) / f.symbol_length) f.symbol_length in
      record {
        block = w.0;
        column = q % e;
        row = q / e;
        in_blocks = w.1;
        in_columns = mod-lt q (omega (arith, valid.some_symbol));
        in_rows = (div-lt_iff_lt-mul {k = e} {x = q} {y = source_count f w.0} (omega (arith, valid.some_symbol))).1 (omega (arith, w.2, w.3));
        is = omega (arith, split, apart, w.2);
      }

  -- one text has one list of rows
  pub one_list : (x y : List ℕ) → length x ≡ coefficient_count f → length y ≡ coefficient_count f
      → coefficients_text None (unnamed f x) ≡ coefficients_text None (unnamed f y) → x ≡ y
  one_list x y lx ly same =
      same_number_lists x y (lx ∙ sym ly)
      (λ p lp.
      let w = place_in_rows p (omega (arith, lp, lx)) in
      ap (slice_index x) (sym w.is)
      ∙ sym (text_at (unnamed f x) valid w.block w.column w.row w.in_blocks w.in_columns w.in_rows)
      ∙ ap (λ (l : List ℕ). slice_index l (text_place f w.block w.column w.row)) same
      ∙ text_at (unnamed f y) valid w.block w.column w.row w.in_blocks w.in_columns w.in_rows
      ∙ ap (slice_index y) w.is)

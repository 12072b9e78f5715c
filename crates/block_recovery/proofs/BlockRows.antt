-- A block's rows in terms of its polynomials.
use Rattle.std.specs.Prelude.{is_some, option_map}
use Rattle.std.specs.Borrow.{Bor}
use Rattle.std.proofs.Common.{◌≡◌, ℕ, ◌+◌, ◌*◌, ◌<◌, ◌≤◌, List, Option, Some, None, length, arith, ap, ◌∙◌, sym, refl, subst, inl, inr}
use Rattle.std.proofs.lemmas.Bool.{cases_lt}
use Rattle.std.proofs.lemmas.List.{get_or_past}
use Rattle.lists.specs.Bytes.{AreBytes}
use Rattle.lists.specs.Below.{below}
use Rattle.lists.proofs.Lists.{filter_same}
use Rattle.lists.proofs.Below.{all_below}
use Rattle.gf256.specs.Arithmetic.{point}
use Rattle.poly.specs.Polynomial.{value, IsPolynomial}
use Rattle.partition.specs.Fti.{Fti, source_count, encoding_count, source_place}
use Rattle.elim.specs.Generator.{Encodes}
use Rattle.elim.specs.Grid.{Grid}
use Rattle.block_code.specs.CodesOf.{IsCodeOf}
use Rattle.block_recovery.specs.Blocks.{bytes_of_esi, HaveLength, Meets, CanBeMet, AreOnly}
use Rattle.block_recovery.specs.Columns.{ColumnExplained}
use Rattle.block_recovery.specs.Decoded.{AreWithin, IsEnoughAt, row_byte, RowsColumn, AreRows, IsUnexplained}
use Rattle.block_recovery.proofs.Words.{through, word_of_values, values_bytes}

pub encodes_own : (f : Fti) (b : ℕ) (g : Grid ℕ) → IsCodeOf f b g → Encodes g.rows g.cols g
encodes_own f b g code =
    subst (λ (k : ℕ). Encodes k g.cols g) (sym code.rows) (subst (λ (n : ℕ). Encodes (source_count f b) n g) (sym code.cols) code.encodes)

module _ (f : Fti) (b : ℕ) (at : ℕ → Option (List ℕ)) (g : Grid ℕ) (size : ℕ) (few : g.rows ≤ 255) (inside : (j : ℕ) (y : List ℕ) → at j ≡ Some y → j < g.cols)
    (code : IsCodeOf f b g) (is : size ≡ f.symbol_length) where
  -- a column's polynomial that explains it has the symbols
  form_of : (c : ℕ) (e : ColumnExplained f b at c) → IsPolynomial g.rows e.polynomial
  form_of c e = subst (λ (k : ℕ). IsPolynomial k e.polynomial) (sym code.rows) e.form

  meets_values : (c : ℕ) (e : ColumnExplained f b at c) → Meets at g c (λ i. value e.polynomial (point i))
  meets_values c e = record {
    source = λ i y li some. e.symbols i y some;
    repair = λ j y past lj some. word_of_values g (encodes_own f b g code) few e.polynomial (form_of c e) j lj ∙ e.symbols j y some;
  }

  can_be_met : ((c : ℕ) → c < f.symbol_length → ColumnExplained f b at c) → CanBeMet at g size
  can_be_met explained c lc =
      let e = explained c (omega (arith, lc, is)) in
      record { row = λ i. value e.polynomial (point i); bytes = values_bytes g.rows e.polynomial (form_of c e); meets = meets_values c e }

  pub unexplained : (CanBeMet at g size → ⊥) → IsUnexplained f b at
  unexplained not_met explained = not_met (can_be_met explained)

  module _ (rows : List ℕ) (made : ℕ → ℕ → ℕ) (made_is : (i c : ℕ) → made i c ≡ row_byte rows f.symbol_length c i) (only : AreOnly at g size made) where
    -- rows with all symbols have the block's polynomials
    column_of : AreBytes rows → (c : ℕ) → c < f.symbol_length → RowsColumn f b at rows c
    column_of bytes c lc =
        let w = through g (encodes_own f b g code) (λ i. made i c) (λ i. (let e = made_is i c in let small = bytes (i * f.symbol_length + c) in omega (arith, e, small))) in
        let m = only.meet c (omega (arith, lc, is)) in
        record {
          polynomial = w.polynomial;
          form = subst (λ (k : ℕ). IsPolynomial k w.polynomial) code.rows w.form;
          source = λ i li. w.source i (omega (arith, li, code.rows)) ∙ made_is i c;
          symbols = λ j y some.
              let lj = inside j y some in
              elim (cases_lt j g.rows) [
                | inl lt ↦ (w.source j lt ∙ m.source j y lt some)
                | inr past ↦ (w.all j lj ∙ m.repair j y past lj some)
              ];
        }

    pub rows_from : AreBytes rows → length rows ≡ source_count f b * f.symbol_length
        → ((i c : ℕ) → i < source_count f b → c < f.symbol_length → f.transfer_length ≤ source_place f b i c → made i c ≡ 0) → AreRows f b at rows
    rows_from bytes count zero = record {
      count = count;
      bytes = bytes;
      columns = column_of bytes;
      padding = λ i c li lc past. sym (made_is i c) ∙ zero i c li lc past;
    }

    -- the rows of a block that is explained are zero where there is padding
    pub padding_zero : ((c : ℕ) → c < f.symbol_length → ColumnExplained f b at c)
        → (i c : ℕ) → i < source_count f b → c < f.symbol_length → f.transfer_length ≤ source_place f b i c → made i c ≡ 0
    padding_zero explained i c li lc past =
        let e = explained c lc in
        only.only c (λ i. value e.polynomial (point i)) (omega (arith, lc, is)) (values_bytes g.rows e.polynomial (form_of c e)) (meets_values c e) i (omega (arith, li, code.rows))
        ∙ e.padding i li past

-- what stands at an ESI stands within
pub stands_within : (received : List (Option (Bor (List ℕ)))) (j : ℕ) (y : List ℕ) → bytes_of_esi received j ≡ Some y → j < length received
stands_within received j y some = elim (cases_lt j (length received)) [
  | inl lt ↦ lt
  | inr past ↦ (let e = ap (λ (o : Option (Bor (List ℕ))). option_map (λ s. s.now) o) (get_or_past received j None past) in absurd (cc))
]

-- the symbols of a block that were read at its ESIs are those that stand there
module _ (f : Fti) (b : ℕ) (at : ℕ → ℕ → Option (List ℕ)) (within : AreWithin f at) (received : List (Option (Bor (List ℕ)))) (len : length received ≡ encoding_count f b)
    (same : (j : ℕ) → j < length received → bytes_of_esi received j ≡ at b j) where
  nothing_past : (j : ℕ) (o : Option (List ℕ)) → at b j ≡ o → length received ≤ j → o ≡ None
  nothing_past j None e past = refl
  nothing_past j (Some y) e past = let h = within.esi b j y e in absurd (omega (arith, h, past, len))

  pub same_at : (j : ℕ) → bytes_of_esi received j ≡ at b j
  same_at j = elim (cases_lt j (length received)) [
    | inl lt ↦ same j lt
    | inr past ↦ ap (λ (o : Option (Bor (List ℕ))). option_map (λ s. s.now) o) (get_or_past received j None past) ∙ sym (nothing_past j (at b j) refl past)
  ]

  pub have_length : HaveLength f.symbol_length (bytes_of_esi received)
  have_length j y some = within.count b j y (sym (same_at j) ∙ some)

  pub enough_arrived : IsEnoughAt f b (at b) → IsEnoughAt f b (bytes_of_esi received)
  enough_arrived enough =
      subst (λ (l : List ℕ). source_count f b ≤ length l)
      (filter_same (λ j. is_some (at b j)) (λ j. is_some (bytes_of_esi received j)) (below (encoding_count f b))
      (all_below (λ j. is_some (at b j) ≡ is_some (bytes_of_esi received j)) (encoding_count f b) (λ j lj. ap is_some (sym (same_at j))))) enough

  pub rows_at : (rows : List ℕ) → AreRows f b (bytes_of_esi received) rows → AreRows f b (at b) rows
  rows_at rows h = record {
    count = h.count;
    bytes = h.bytes;
    columns = λ c lc. (let w = h.columns c lc in
        record { polynomial = w.polynomial; form = w.form; source = w.source; symbols = λ j y some. w.symbols j y (same_at j ∙ some) });
    padding = h.padding;
  }

  explained_at : ((c : ℕ) → c < f.symbol_length → ColumnExplained f b (at b) c) → (c : ℕ) → c < f.symbol_length → ColumnExplained f b (bytes_of_esi received) c
  explained_at explained c lc = (let w = explained c lc in
      record { polynomial = w.polynomial; form = w.form; symbols = λ j y some. w.symbols j y (sym (same_at j) ∙ some); padding = w.padding })

  pub unexplained_at : IsUnexplained f b (bytes_of_esi received) → IsUnexplained f b (at b)
  unexplained_at h explained = h (explained_at explained)

-- the symbols that were read at a block's ESIs, where they are in a vector
pub record AreArrivals (f : Fti) (b : ℕ) (at : ℕ → ℕ → Option (List ℕ)) (received : List (Option (Bor (List ℕ)))) : Type 0 where
  pub len : length received ≡ encoding_count f b
  pub same : (j : ℕ) → j < length received → bytes_of_esi received j ≡ at b j

pub are_arrivals : (f : Fti) (b : ℕ) (at : ℕ → ℕ → Option (List ℕ)) (n : ℕ) (items received : List (Option (Bor (List ℕ)))) → n ≡ encoding_count f b → length items ≡ n
    → ((j : ℕ) → j < n → bytes_of_esi items j ≡ at b j) → received ≡ items → AreArrivals f b at received
are_arrivals f b at n items received count len same is = record {
  len = ap length is ∙ len ∙ count;
  same = λ j lj. ap (λ (l : List (Option (Bor (List ℕ)))). bytes_of_esi l j) is ∙ same j (omega (arith, lj, ap length is, len));
}

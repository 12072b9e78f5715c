-- What a block's rows give at an ESI, and the symbols that came.
use Rattle.std.specs.Prelude.{is_some, filter, slice_index}
use Rattle.std.proofs.Common.{◌≡◌, ◌≢◌, ℕ, ◌<◌, ◌≤◌, true, List, Option, Some, None, length, take, length-take-le, arith, ap, ◌∙◌, sym, subst, refl, inl, inr}
use Rattle.std.specs.List.{AllByRecursion}
use Rattle.std.proofs.lemmas.Bool.{cases_eq}
use Rattle.std.proofs.lemmas.Grind.{same_number_lists}
use Rattle.lists.specs.Below.{below}
use Rattle.lists.specs.Bytes.{IsByte}
use Rattle.lists.proofs.Lists.{all_to, all_take, all_filter}
use Rattle.lists.proofs.Below.{all_below, length_below}
use Rattle.gf256.specs.Arithmetic.{point}
use Rattle.poly.specs.Polynomial.{value, IsPolynomial}
use Rattle.poly.proofs.Bytes.{same_polynomial}
use Rattle.reception.proofs.Different.{different_below, different_filter, different_take}
use Rattle.partition.specs.Fti.{Fti, source_count, encoding_count}
use Rattle.elim.specs.Grid.{Grid, entry}
use Rattle.elim.specs.Matrices.{AreElements}
use Rattle.block_code.specs.CodesOf.{IsCodeOf}
use Rattle.block_recovery.specs.Blocks.{given}
use Rattle.block_recovery.specs.Columns.{ColumnExplained}
use Rattle.block_recovery.specs.Decoded.{IsEnoughAt, row_byte, AreRows, RowsColumn, IsUnexplained}
use Rattle.block_recovery.specs.Giving.{GivesByte, GivesSymbol}
use Rattle.block_recovery.proofs.BlockRows.{encodes_own}
use Rattle.block_recovery.proofs.Erased.{row_same}
use Rattle.block_recovery.proofs.Meetings.{some_of}
use Rattle.block_recovery.proofs.Words.{through, word_of_values}

-- the polynomial through a column of rows gives what the rows' products with the generator are
module _ (f : Fti) (b : ℕ) (g : Grid ℕ) (code : IsCodeOf f b g) (rows : List ℕ) (c j : ℕ) where
  abbrev column : ℕ → ℕ
  column i = row_byte rows f.symbol_length c i

  pub gives_given : AreElements IsByte column → j < g.cols → (y : ℕ) → given g column j ≡ y → GivesByte f b rows c j y
  gives_given bytes lj y is =
      let w = through g (encodes_own f b g code) column bytes in
      record {
        polynomial = w.polynomial;
        form = subst (λ (k : ℕ). IsPolynomial k w.polynomial) code.rows w.form;
        source = λ i li. w.source i (omega (arith, li, code.rows));
        symbol = w.all j lj ∙ is;
      }

  pub gives_source : AreElements IsByte column → j < source_count f b → (y : ℕ) → column j ≡ y → GivesByte f b rows c j y
  gives_source bytes lj y is =
      let w = through g (encodes_own f b g code) column bytes in
      record {
        polynomial = w.polynomial;
        form = subst (λ (k : ℕ). IsPolynomial k w.polynomial) code.rows w.form;
        source = λ i li. w.source i (omega (arith, li, code.rows));
        symbol = w.source j (omega (arith, lj, code.rows)) ∙ is;
      }

  pub given_is : source_count f b ≤ 255 → j < g.cols → (y : ℕ) → GivesByte f b rows c j y → given g column j ≡ y
  given_is few lj y gives =
      row_same column (λ i. value gives.polynomial (point i)) (entry 0 g) g.rows j (λ i li. sym (gives.source i (omega (arith, li, code.rows))))
      ∙ word_of_values g (encodes_own f b g code) (omega (arith, few, code.rows)) gives.polynomial (subst (λ (k : ℕ). IsPolynomial k gives.polynomial) (sym code.rows) gives.form) j lj
      ∙ gives.symbol

pub source_is : (f : Fti) (b : ℕ) (rows : List ℕ) (c j y : ℕ) → j < source_count f b → GivesByte f b rows c j y → row_byte rows f.symbol_length c j ≡ y
source_is f b rows c j y lj gives = sym (gives.source j lj) ∙ gives.symbol

module _ (f : Fti) (b : ℕ) (few : source_count f b ≤ 255) (rows : List ℕ) (j : ℕ) where
  one_byte : (c y z : ℕ) → GivesByte f b rows c j y → GivesByte f b rows c j z → y ≡ z
  one_byte c y z u v =
      let same : u.polynomial ≡ v.polynomial =
      same_polynomial (source_count f b) u.polynomial v.polynomial (below (source_count f b)) u.form v.form (length_below _)
      (all_below (λ i. i < 255) _ (λ i h. omega (arith, h, few))) (different_below _)
      (all_below (λ i. value u.polynomial (point i) ≡ value v.polynomial (point i)) _ (λ i h. u.source i h ∙ sym (v.source i h))) in
      sym u.symbol ∙ ap (λ (p : List ℕ). value p (point j)) same ∙ v.symbol

  -- rows give one symbol at an ESI
  pub gives_one : (y z : List ℕ) → length y ≡ f.symbol_length → length z ≡ f.symbol_length → GivesSymbol f b rows j y → GivesSymbol f b rows j z → y ≡ z
  gives_one y z ly lz u v =
      same_number_lists y z (ly ∙ sym lz) (λ c lc. one_byte c (slice_index y c) (slice_index z c) (u c (omega (arith, lc, ly))) (v c (omega (arith, lc, ly))))

module _ (f : Fti) (b : ℕ) (at : ℕ → Option (List ℕ)) (rows : List ℕ) (are : AreRows f b at rows) (j : ℕ) (y : List ℕ) where
  -- rows give each symbol that came
  pub gives_arrived : at j ≡ Some y → GivesSymbol f b rows j y
  gives_arrived some c lc = let w = are.columns c lc in record { polynomial = w.polynomial; form = w.form; source = w.source; symbol = w.symbols j y some }

  -- with a symbol more
  module _ (more : ℕ → Option (List ℕ)) (here : more j ≡ Some y) (elsewhere : (i : ℕ) → i ≢ j → more i ≡ at i) where
    module _ (few : source_count f b ≤ 255) where
      column_with : (c : ℕ) → c < f.symbol_length → GivesByte f b rows c j (slice_index y c) → RowsColumn f b more rows c
      column_with c lc gives =
          let w = are.columns c lc in
          let own : GivesByte f b rows c j (value w.polynomial (point j)) = record { polynomial = w.polynomial; form = w.form; source = w.source; symbol = refl } in
          record {
            polynomial = w.polynomial;
            form = w.form;
            source = w.source;
            symbols = λ i z some. elim (cases_eq i j) [
              | inl e ↦
                  (let same : Some y ≡ Some z = sym here ∙ ap more (sym e) ∙ some in
                  let is : y ≡ z = cc in
                  ap (λ (n : ℕ). value w.polynomial (point n)) e ∙ one_byte f b few rows j c _ _ own gives ∙ ap (λ (l : List ℕ). slice_index l c) is)
              | inr ne ↦ w.symbols i z (sym (elsewhere i ne) ∙ some)
            ];
          }

      -- rows that give one symbol more are those of the block with it
      pub rows_with : GivesSymbol f b rows j y → AreRows f b more rows
      rows_with gives = record { count = are.count; bytes = are.bytes; columns = λ c lc. column_with c lc (gives c lc); padding = are.padding }

    module _ (none : at j ≡ None) (few : encoding_count f b ≤ 255) (enough : IsEnoughAt f b at) where
      abbrev esis : List ℕ
      esis = take (source_count f b) (filter (λ i. is_some (at i)) (below (encoding_count f b)))

      arrived : AllByRecursion (λ i. (is_some (at i) ≡ true) × (i < 255)) esis
      arrived =
          all_take (λ i. (is_some (at i) ≡ true) × (i < 255)) _ _
          (all_filter (λ i. i < 255) (λ i. is_some (at i)) (below (encoding_count f b)) (all_below (λ i. i < 255) _ (λ i h. omega (arith, h, few))))

      agree : (c : ℕ) (e : ColumnExplained f b more c) (w : RowsColumn f b at rows c) (i : ℕ) → (is_some (at i) ≡ true) × (i < 255) → value e.polynomial (point i) ≡ value w.polynomial (point i)
      agree c e w i came =
          let z = some_of (at i) came.0 in
          let apart : i ≢ j = λ is. (let gone : at i ≡ None = ap at is ∙ none in let there = z.1 in absurd (cc)) in
          e.symbols i z.0 (elsewhere i apart ∙ z.1) ∙ sym (w.symbols i z.0 z.1)

      explained_gives : (c : ℕ) → c < f.symbol_length → ColumnExplained f b more c → GivesByte f b rows c j (slice_index y c)
      explained_gives c lc e =
          let w = are.columns c lc in
          let same : e.polynomial ≡ w.polynomial =
          same_polynomial (source_count f b) e.polynomial w.polynomial esis e.form w.form (length-take-le _ _ enough)
          (all_to _ (λ i. i < 255) (λ i h. h.1) esis arrived)
          (different_take _ _ (different_filter (λ i. is_some (at i)) (below (encoding_count f b)) (different_below _)))
          (all_to _ (λ i. value e.polynomial (point i) ≡ value w.polynomial (point i)) (agree c e w) esis arrived) in
          record { polynomial = w.polynomial; form = w.form; source = w.source; symbol = ap (λ (p : List ℕ). value p (point j)) (sym same) ∙ e.symbols j y here }

      -- no polynomials explain a block with a symbol more that its rows don't give
      pub unexplained_with : (GivesSymbol f b rows j y → ⊥) → IsUnexplained f b more
      unexplained_with other explained = other (λ c lc. explained_gives c lc (explained c lc))

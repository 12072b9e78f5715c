-- A byte column of a block: its source symbols' bytes as a row, and the encoding symbols' bytes
-- that the generator makes.
use Rattle.std.proofs.Common.{◌≡◌, ℕ, ◌<◌, ◌≤◌, List, length, get_or, take, arith, ap, ◌∙◌, sym, get_or-take, length-take}
use Rattle.lists.specs.Bytes.{AreBytes}
use Rattle.gf256.specs.Arithmetic.{sum_of, product}
use Rattle.partition.specs.Fti.{Fti, block_count, source_count, encoding_count, source_byte}
use Rattle.elim.specs.Grid.{Grid, entry, row_product}
use Rattle.gf256.specs.Sums.{row_times}
use Rattle.elim.proofs.RowProducts.{length-row_product}
use Rattle.reception.specs.Symbols.{Agrees, ColumnAgrees}
use Rattle.block_code.specs.CodesOf.{IsCodeOf}
use Rattle.block_code.proofs.SourceRows.{row_of, length-row_of, get_or-row_of, bytes-row_of, product_at}

length-take-most : (n : ℕ) (xs : List ℕ) → length (take n xs) ≤ length xs
length-take-most n xs = simp length-take (omega arith)

module _ (f : Fti) (object : List ℕ) (b : ℕ) (g : Grid ℕ) (code : IsCodeOf f b g) (bytes : AreBytes object) where
  abbrev pub column : ℕ → ℕ → ℕ
  column c i = source_byte f object b i c

  abbrev pub word : ℕ → List ℕ
  word c = row_product sum_of product 0 (row_of (column c) (source_count f b)) g

  column_bytes : (c : ℕ) → AreBytes (row_of (column c) (source_count f b))
  column_bytes c = bytes-row_of (column c) (source_count f b) (λ i. bytes _)

  wide : source_count f b ≤ encoding_count f b
  wide =
      let same : length (take (source_count f b) (word 0)) ≡ length (row_of (column 0) (source_count f b)) =
      ap length (code.encodes.begins (row_of (column 0) (source_count f b)) (length-row_of (column 0) (source_count f b)) (column_bytes 0)) in
      let long : length (word 0) ≡ g.cols = length-row_product sum_of product 0 (row_of (column 0) (source_count f b)) g in
      let few : length (take (source_count f b) (word 0)) ≤ length (word 0) = length-take-most (source_count f b) (word 0) in
      omega (arith, same, long, few, code.cols, length-row_of (column 0) (source_count f b))

  begins : (c i : ℕ) → i < source_count f b → get_or (word c) i 0 ≡ column c i
  begins c i li =
      sym (get_or-take (source_count f b) (word c) i 0 li)
      ∙ ap (λ (l : List ℕ). get_or l i 0) (code.encodes.begins (row_of (column c) (source_count f b)) (length-row_of (column c) (source_count f b)) (column_bytes c))
      ∙ get_or-row_of (column c) (source_count f b) i li

  -- a column's encoding symbol is the value of the polynomial through its source symbols
  pub agrees_at : (j c y : ℕ) → j < encoding_count f b → y ≡ get_or (word c) j 0 → ColumnAgrees f object b j c y
  agrees_at j c y lj is =
      let w = code.encodes.word (row_of (column c) (source_count f b)) (length-row_of (column c) (source_count f b)) (column_bytes c) in
      record {
        polynomial = w.polynomial.0;
        form = w.polynomial.1;
        source = λ i li. (let inside : i < encoding_count f b = omega (arith, wide) in w.polynomial.2 i inside ∙ begins c i li);
        symbol = w.polynomial.2 j lj ∙ sym is;
      }

  pub made_agrees : (j : ℕ) (out : List ℕ) → b < block_count f → j < encoding_count f b → length out ≡ f.symbol_length
      → ((c : ℕ) → c < f.symbol_length → get_or out c 0 ≡ row_times sum_of product 0 (λ i. source_byte f object b i c) (entry 0 g) (source_count f b) j)
      → Agrees f object (record { block = b; esi = j; bytes = out })
  made_agrees j out hb lj len sums =
      let inside : j < g.cols = rw code.cols lj in
      record {
        block = hb;
        esi = lj;
        count = len;
        columns = λ c hc. agrees_at j c (get_or out c 0) lj (sums c hc ∙ sym (product_at (column c) (source_count f b) g j code.rows inside));
      }

  pub source_agrees : (j : ℕ) (out : List ℕ) → b < block_count f → j < source_count f b → length out ≡ f.symbol_length
      → ((c : ℕ) → c < f.symbol_length → get_or out c 0 ≡ source_byte f object b j c)
      → Agrees f object (record { block = b; esi = j; bytes = out })
  source_agrees j out hb lj len same =
      let inside : j < encoding_count f b = omega (arith, wide) in
      record {
        block = hb;
        esi = inside;
        count = len;
        columns = λ c hc. agrees_at j c (get_or out c 0) inside (same c hc ∙ sym (begins c j lj));
      }

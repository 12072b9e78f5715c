-- What decoding makes of the symbols that came.
use Rattle.std.specs.Prelude.{◌≡◌, ℕ, ◌<◌, ◌≤◌, ◌+◌, ◌*◌, List, length, filter, slice_index, Option}
use Rattle.std.specs.Prelude.{Some, is_some, true}
use Rattle.lists.specs.Bytes.{AreBytes}
use Rattle.gf256.specs.Arithmetic.{point}
use Rattle.poly.specs.Polynomial.{value, IsPolynomial}
use Rattle.partition.specs.Fti.{Fti, block_count, source_count, encoding_count, source_place}
use Rattle.lists.specs.Below.{below}
use Rattle.block_recovery.specs.Columns.{ColumnExplained}

-- each symbol is one that the FTI has
pub record AreWithin (f : Fti) (at : ℕ → ℕ → Option (List ℕ)) : Type 0 where
  pub block : (b j : ℕ) (y : List ℕ) → at b j ≡ Some y → b < block_count f
  pub esi : (b j : ℕ) (y : List ℕ) → at b j ≡ Some y → j < encoding_count f b
  pub count : (b j : ℕ) (y : List ℕ) → at b j ≡ Some y → length y ≡ f.symbol_length

-- something came only of blocks and at ESIs that the FTI has
pub record AreInRange (f : Fti) (at : ℕ → ℕ → Option (List ℕ)) : Type 0 where
  pub block : (b j : ℕ) → is_some (at b j) ≡ true → b < block_count f
  pub esi : (b j : ℕ) → is_some (at b j) ≡ true → j < encoding_count f b

-- as many symbols of a block came as it has source symbols
abbrev pub IsEnoughAt : Fti → ℕ → (ℕ → Option (List ℕ)) → Type 0
IsEnoughAt f b at =
    source_count f b ≤ length (filter (λ j. is_some (at j)) (below (encoding_count f b)))

-- byte c of row i, where rows of so many bytes stand one behind the other
abbrev pub row_byte : List ℕ → ℕ → ℕ → ℕ → ℕ
row_byte rows size c i = slice_index rows (i * size + c)

-- a polynomial passes through a column of the rows and the symbols that came
pub record RowsColumn (f : Fti) (b : ℕ) (at : ℕ → Option (List ℕ)) (rows : List ℕ)
    (c : ℕ) : Type 0 where
  pub polynomial : List ℕ
  pub form : IsPolynomial (source_count f b) polynomial
  pub source : (i : ℕ) → i < source_count f b
      → value polynomial (point i) ≡ row_byte rows f.symbol_length c i
  pub symbols : (j : ℕ) (y : List ℕ) → at j ≡ Some y → value polynomial (point j) ≡ slice_index y c

-- the rows are the block's source symbols, padded with zeros
pub record AreRows (f : Fti) (b : ℕ) (at : ℕ → Option (List ℕ)) (rows : List ℕ) : Type 0 where
  pub count : length rows ≡ source_count f b * f.symbol_length
  pub bytes : AreBytes rows
  pub columns : (c : ℕ) → c < f.symbol_length → RowsColumn f b at rows c
  pub padding : (i c : ℕ) → i < source_count f b → c < f.symbol_length
      → f.transfer_length ≤ source_place f b i c → row_byte rows f.symbol_length c i ≡ 0

-- no polynomials explain the block
abbrev pub IsUnexplained : Fti → ℕ → (ℕ → Option (List ℕ)) → Type 0
IsUnexplained f b at = ((c : ℕ) → c < f.symbol_length → ColumnExplained f b at c) → ⊥

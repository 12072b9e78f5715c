-- What a block's source symbols give at an ESI.
use Rattle.std.specs.Prelude.{◌≡◌, ℕ, ◌<◌, List, slice_index}
use Rattle.gf256.specs.Arithmetic.{point}
use Rattle.poly.specs.Polynomial.{value, IsPolynomial}
use Rattle.partition.specs.Fti.{Fti, source_count}
use Rattle.block_recovery.specs.Decoded.{row_byte}

-- the polynomial through a column of the rows has this value at the point of the ESI
pub record GivesByte (f : Fti) (b : ℕ) (rows : List ℕ) (c j y : ℕ) : Type 0 where
  pub polynomial : List ℕ
  pub form : IsPolynomial (source_count f b) polynomial
  pub source : (i : ℕ) → i < source_count f b
      → value polynomial (point i) ≡ row_byte rows f.symbol_length c i
  pub symbol : value polynomial (point j) ≡ y

-- a block's rows give this symbol at the ESI
abbrev pub GivesSymbol : Fti → ℕ → List ℕ → ℕ → List ℕ → Type 0
GivesSymbol f b rows j y = (c : ℕ) → c < f.symbol_length → GivesByte f b rows c j (slice_index y c)

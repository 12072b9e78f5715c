-- The polynomials of a block's columns, where the symbols that came stand at their ESIs.
use Rattle.std.specs.Prelude.{◌≡◌, ℕ, ◌<◌, ◌≤◌, List, Option, Some, slice_index}
use Rattle.gf256.specs.Arithmetic.{point}
use Rattle.poly.specs.Polynomial.{value, IsPolynomial}
use Rattle.partition.specs.Fti.{Fti, source_count, source_place, source_byte}

-- a column of a block has a polynomial through all symbols that stand at its ESIs, which is zero
-- where there is padding
pub record ColumnExplained (f : Fti) (b : ℕ) (at : ℕ → Option (List ℕ)) (c : ℕ) : Type 0 where
  pub polynomial : List ℕ
  pub form : IsPolynomial (source_count f b) polynomial
  pub symbols : (j : ℕ) (y : List ℕ) → at j ≡ Some y → value polynomial (point j) ≡ slice_index y c
  pub padding : (i : ℕ) → i < source_count f b → f.transfer_length ≤ source_place f b i c
      → value polynomial (point i) ≡ 0

-- a column of a block has a polynomial through the object's source symbols and all symbols that
-- stand at its ESIs
pub record BlockColumn (f : Fti) (object : List ℕ) (b : ℕ) (at : ℕ → Option (List ℕ))
    (c : ℕ) : Type 0 where
  pub polynomial : List ℕ
  pub form : IsPolynomial (source_count f b) polynomial
  pub source : (i : ℕ) → i < source_count f b
      → value polynomial (point i) ≡ source_byte f object b i c
  pub symbols : (j : ℕ) (y : List ℕ) → at j ≡ Some y → value polynomial (point j) ≡ slice_index y c

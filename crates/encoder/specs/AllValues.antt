-- A block's values at all 255 points, of which those at its source points are its source symbols.
use Rattle.std.specs.Prelude.{◌≡◌, ℕ, ◌<◌, ◌≤◌, ◌*◌, List, length}
use Rattle.gf256.specs.Arithmetic.{point}
use Rattle.poly.specs.Polynomial.{value, IsPolynomial}
use Rattle.evaluation.specs.Coefficients.{HasValues}
use Rattle.partition.specs.Fti.{Fti, source_count, source_byte}
use Rattle.block_code.specs.Codes.{least_by_values}

-- column c of the rows has the values of the polynomial through the source symbols of block b
pub record IsExtended (object : List ℕ) (f : Fti) (b : ℕ) (rows : List ℕ) (c : ℕ) : Type 0 where
  pub polynomial : List ℕ
  pub form : IsPolynomial (source_count f b) polynomial
  pub values : HasValues polynomial rows f.symbol_length c
  pub sources : (i : ℕ) → i < source_count f b
      → value polynomial (point i) ≡ source_byte f object b i c

-- room for these rows, where any block is made by way of them
abbrev pub IsRoom : Fti → List ℕ → Type 0
IsRoom f bytes = least_by_values ≤ source_count f 0 → 255 * f.symbol_length ≤ length bytes

-- Coefficients that are told by the values at all 255 points.
use Rattle.std.specs.Prelude.{◌≡◌, ◌<◌, ◌+◌, ◌*◌, ℕ, List, slice_index}
use Rattle.gf256.specs.Arithmetic.{point}
use Rattle.poly.specs.Polynomial.{value, IsPolynomial}
use Rattle.evaluation.specs.Columns.{IsColumn}

-- the value at point i stands in column c of row i, for each of the 255 points
abbrev pub HasValues : List ℕ → List ℕ → ℕ → ℕ → Type 0
HasValues p values width c =
    (i : ℕ) → i < 255 → slice_index values (i * width + c) ≡ value p (point i)

-- in each column stand the coefficients of each polynomial of k of them that has the column's
-- values
abbrev pub AreCoefficients : List ℕ → ℕ → ℕ → List ℕ → Type 0
AreCoefficients values width k rows =
    (c : ℕ) (p : List ℕ) → c < width → IsPolynomial k p → HasValues p values width c
    → IsColumn rows k width c p

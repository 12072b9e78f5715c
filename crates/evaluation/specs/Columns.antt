-- Rows of coefficients: row i has coefficient i of the polynomial of each byte column.
use Rattle.std.specs.Prelude.{◌≡◌, ◌<◌, ◌+◌, ◌*◌, ℕ, List, length, slice_index}
use Rattle.gf256.specs.Arithmetic.{point}
use Rattle.poly.specs.Polynomial.{value}

-- the coefficients in column c of k rows of width bytes
pub record IsColumn (rows : List ℕ) (k width c : ℕ) (p : List ℕ) : Type 0 where
  pub count : length p ≡ k
  pub bytes : (i : ℕ) → i < k → slice_index p i ≡ slice_index rows (i * width + c)

-- in the first n rows, row j has in each column the value of the column's polynomial at point first
-- + j
abbrev pub AreValues : List ℕ → ℕ → ℕ → ℕ → ℕ → List ℕ → Type 0
AreValues coefficients k width first n symbols =
    (j c : ℕ) (p : List ℕ) → j < n → c < width → IsColumn coefficients k width c p
    → slice_index symbols (j * width + c) ≡ value p (point (first + j))

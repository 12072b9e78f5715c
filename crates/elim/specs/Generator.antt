-- The generator matrix of the code (RFC 5510, section 8.2.1), over bytes.
use Rattle.std.specs.Prelude.{◌≡◌, ◌<◌, ◌*◌, ℕ, List, length, take, slice_index}
use Rattle.lists.specs.Bytes.{AreBytes}
use Rattle.gf256.specs.Arithmetic.{sum_of, product, point, alpha_to}
use Rattle.poly.specs.Polynomial.{IsWord, value}
use Rattle.gf256.specs.Sums.{row_times}
use Rattle.elim.specs.Matrices.{identity_entry}
use Rattle.elim.specs.Grid.{Grid, entry, row_product}

-- the entry of V in row i and column j, whatever its counts of rows and columns
abbrev pub power_entry : ℕ → ℕ → ℕ
power_entry i j = alpha_to (i * j)

-- V of k rows and k columns times it is V of k rows and n columns
pub record IsGenerator (k n : ℕ) (g : Grid ℕ) : Type 0 where
  pub rows : g.rows ≡ k
  pub cols : g.cols ≡ n
  pub equation : (i j : ℕ) → i < k → j < n
      → row_times sum_of product 0 (power_entry i) (entry 0 g) k j ≡ power_entry i j

-- the first k columns are the identity
pub record IsSystematic (k : ℕ) (g : Grid ℕ) : Type 0 where
  pub front : (i j : ℕ) → i < k → j < k → entry 0 g i j ≡ identity_entry 0 1 i j

-- each row of k bytes times it is a word that begins with the row
pub record Encodes (k n : ℕ) (g : Grid ℕ) : Type 0 where
  pub word : (source : List ℕ) → length source ≡ k → AreBytes source
      → IsWord k n (row_product sum_of product 0 source g)
  pub begins : (source : List ℕ) → length source ≡ k → AreBytes source
      → take k (row_product sum_of product 0 source g) ≡ source

-- each row of k bytes times it is the coefficients of the polynomial that has these values at the
-- first k points
pub record Interpolates (k : ℕ) (g : Grid ℕ) : Type 0 where
  pub values : (source : List ℕ) → length source ≡ k → AreBytes source → (i : ℕ) → i < k
      → value (row_product sum_of product 0 source g) (point i) ≡ slice_index source i

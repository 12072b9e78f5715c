-- Lagrange's polynomials: one at a point and zero at the others.
use Rattle.std.specs.Prelude.{◌≡◌, ◌≢◌, ◌<◌, ◌≤◌, ◌+◌, ◌==◌, ℕ, if◌then◌else◌, List, [], ◌∷◌}
use Rattle.std.specs.Prelude.{length, slice_index}
use Rattle.lists.specs.Bytes.{IsByte, AreBytes}
use Rattle.gf256.specs.Arithmetic.{sum_of, product, point}
use Rattle.poly.specs.Polynomial.{value, root_product_over}
use Rattle.elim.specs.Matrices.{identity_entry}

-- the points that aren't x
abbrev pub others : List ℕ → ℕ → List ℕ
others [] x = []
others (p ∷ ps) x = if x == p then others ps x else p ∷ others ps x

-- the product of z + p over the points p
abbrev pub root_product : List ℕ → ℕ → ℕ
root_product points z = root_product_over sum_of product 1 points z

-- the product of x + p over the points p that aren't x
abbrev pub differences : List ℕ → ℕ → ℕ
differences points x = root_product (others points x) x

-- the coefficients of the product of z + p over the points p
pub record IsMaster (points master : List ℕ) : Type 0 where
  pub count : length master ≡ length points + 1
  pub bytes : AreBytes master
  pub values : (z : ℕ) → IsByte z → value master z ≡ root_product points z
  pub leading : slice_index master (length points) ≡ 1

-- k coefficients of a polynomial that is zero at each of the first k points but for point i
pub record IsNumerator (k i : ℕ) (p : List ℕ) : Type 0 where
  pub count : length p ≡ k
  pub bytes : AreBytes p
  pub zero : (j : ℕ) → j < k → j ≢ i → value p (point j) ≡ 0
  pub here : value p (point i) ≢ 0

-- the value at point j of the polynomial that is one at point i and zero at the others of these k
-- points
pub record IsEntry (k : ℕ) (points : List ℕ) (i j v : ℕ) : Type 0 where
  pub byte : IsByte v
  pub front : j < k → v ≡ identity_entry 0 1 i j
  pub beyond : k ≤ j
      → product v (product (differences points (point i)) (sum_of (point j) (point i)))
      ≡ differences points (point j)

-- Steps on matrices: steps on rows, and what a column of the elimination keeps.
use Rattle.std.specs.Prelude.{◌≡◌, ◌≢◌, ◌<◌, ℕ}
use Rattle.gf256.specs.Sums.{dot}
use Rattle.elim.specs.Matrices.{identity_entry, AreElements}
use Rattle.elim.specs.Grid.{Grid, entry, HasElements, HasShape}

-- a step on a matrix: as many rows and columns as before, and its entries, all elements, have
-- changed like this
pub record IsStep {F : Type 0} (element : F → Type 0) (none : F)
    (change : (ℕ → ℕ → F) → (ℕ → ℕ → F) → Type 0) (old new : Grid F) : Type 0 where
  pub shape : HasShape old.rows old.cols new
  pub entries : change (entry none old) (entry none new)
  pub elements : HasElements element none new

-- rows a and b have changed places
pub record IsSwapped {F : Type 0} (k n a b : ℕ) (old new : ℕ → ℕ → F) : Type 0 where
  pub first : (j : ℕ) → j < n → new a j ≡ old b j
  pub second : (j : ℕ) → j < n → new b j ≡ old a j
  pub others : (i j : ℕ) → i < k → j < n → i ≢ a → i ≢ b → new i j ≡ old i j

-- row r is this row now
pub record IsRowSet {F : Type 0} (k n r : ℕ) (row : ℕ → F) (old new : ℕ → ℕ → F) : Type 0 where
  pub here : (j : ℕ) → j < n → new r j ≡ row j
  pub others : (i j : ℕ) → i < k → j < n → i ≢ r → new i j ≡ old i j

-- a system of equations: the entries of its matrix and those of its right side
pub record System (F : Type 0) : Type 0 where
  pub matrix : ℕ → ℕ → F
  pub right : ℕ → ℕ → F

-- that of these two matrices
abbrev pub system_of : {F : Type 0} → F → Grid F → Grid F → System F
system_of none matrix right = record { matrix = entry none matrix; right = entry none right }

-- x and z solve each row's equation: the matrix's row with x is the right side's row with z
abbrev pub Solves : {F : Type 0} → (F → F → F) → (F → F → F) → F → ℕ → System F → (ℕ → F) → (ℕ → F)
    → Type 0
Solves add mul none k s x z =
    (i : ℕ) → i < k → dot add mul none x (s.matrix i) k ≡ dot add mul none z (s.right i) k

-- what solves the first system solves the second
pub record KeepsSolutions {F : Type 0} (element : F → Type 0) (add mul : F → F → F) (none : F)
    (k : ℕ) (old new : System F) : Type 0 where
  pub to : (x z : ℕ → F) → AreElements element x → AreElements element z
      → Solves add mul none k old x z → Solves add mul none k new x z

-- both systems have the same solutions
pub record SameSolutions {F : Type 0} (element : F → Type 0) (add mul : F → F → F) (none : F)
    (k : ℕ) (old new : System F) : Type 0 where
  pub there : KeepsSolutions element add mul none k old new
  pub back : KeepsSolutions element add mul none k new old

-- the first p columns are those of the identity
pub record HasUnitColumns {F : Type 0} (none one : F) (k p : ℕ) (w : ℕ → ℕ → F) : Type 0 where
  pub at : (i j : ℕ) → i < k → j < p → w i j ≡ identity_entry none one i j

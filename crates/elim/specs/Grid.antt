-- A matrix as its counts of rows and columns and the list of its entries, row after row.
use Rattle.std.specs.Prelude.{◌≡◌, ◌≢◌, ◌<◌, ◌≤◌, ◌+◌, ◌*◌, ℕ, List, length, map, slice_index_or}
use Rattle.std.specs.List.{range_with_len}
use Rattle.gf256.specs.Sums.{row_times}
use Rattle.elim.specs.Matrices.{AreElements, identity_entry}

pub record Grid (F : Type 0) : Type 0 where
  pub rows : ℕ
  pub cols : ℕ
  pub entries : List F

-- the entry in row i and column j
abbrev pub entry : {F : Type 0} → F → Grid F → ℕ → ℕ → F
entry none g i j = slice_index_or g.entries (i * g.cols + j) none

-- the entry of a product in row i and column j
abbrev pub product_entry : {F : Type 0} → (F → F → F) → (F → F → F) → F → Grid F → Grid F → ℕ → ℕ
    → F
product_entry add mul none a b i j = row_times add mul none (entry none a i) (entry none b) a.cols j

-- a row times a matrix
abbrev pub row_product : {F : Type 0} → (F → F → F) → (F → F → F) → F → List F → Grid F → List F
row_product add mul none row g =
    map (λ j. row_times add mul none (λ i. slice_index_or row i none) (entry none g) g.rows j)
    (range_with_len 0 g.cols)

-- each entry is an element
pub record HasElements {F : Type 0} (element : F → Type 0) (none : F) (g : Grid F) : Type 0 where
  pub at : (i : ℕ) → element (slice_index_or g.entries i none)

-- what is true of each matrix
pub record IsMatrix {F : Type 0} (element : F → Type 0) (none : F) (g : Grid F) : Type 0 where
  pub some_rows : 0 < g.rows
  pub some_cols : 0 < g.cols
  pub few_rows : g.rows ≤ 255
  pub few_cols : g.cols ≤ 255
  pub whole : length g.entries ≡ g.rows * g.cols
  pub elements : HasElements element none g

-- r rows and c columns
pub record HasShape {F : Type 0} (r c : ℕ) (g : Grid F) : Type 0 where
  pub rows : g.rows ≡ r
  pub cols : g.cols ≡ c

-- the entries within are the values of f
pub record HasEntries {F : Type 0} (none : F) (r c : ℕ) (f : ℕ → ℕ → F) (g : Grid F) : Type 0 where
  pub at : (i j : ℕ) → i < r → j < c → entry none g i j ≡ f i j

-- a matrix of r rows and c columns whose entries are the values of f, each an element
pub record IsMatrixOf {F : Type 0} (element : F → Type 0) (none : F) (r c : ℕ) (f : ℕ → ℕ → F)
    (g : Grid F) : Type 0 where
  pub shape : HasShape r c g
  pub entries : HasEntries none r c f g
  pub elements : HasElements element none g

-- the square matrices m and w are the inverses of each other
pub record AreInverse {F : Type 0} (add mul : F → F → F) (none one : F)
    (m w : Grid F) : Type 0 where
  pub left : (i j : ℕ) → i < m.rows → j < m.rows
      → row_times add mul none (entry none w i) (entry none m) m.rows j
      ≡ identity_entry none one i j
  pub right : (i j : ℕ) → i < m.rows → j < m.rows
      → row_times add mul none (entry none m i) (entry none w) m.rows j
      ≡ identity_entry none one i j

-- some row that isn't zero, times the square matrix m, is zero
pub record IsSingular {F : Type 0} (element : F → Type 0) (add mul : F → F → F) (none : F)
    (m : Grid F) : Type 0 where
  pub row : ℕ → F
  pub elements : AreElements element row
  pub place : ℕ
  pub within : place < m.rows
  pub apart : row place ≢ none
  pub gone : (j : ℕ) → j < m.rows → row_times add mul none row (entry none m) m.rows j ≡ none

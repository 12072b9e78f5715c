-- Entries by row and column.
use Rattle.std.proofs.Common.{◌≡◌, ℕ, ◌+◌, ◌*◌, ◌<◌, ◌∙◌}
use Rattle.elim.specs.Matrices.{AreElements}
use Rattle.elim.specs.Grid.{Grid, entry, HasElements, HasEntries, HasShape}

-- each entry is an element, also by row and column
pub elements_by_row : {F : Type 0} (element : F → Type 0) (none : F) (g : Grid F) → HasElements element none g → (i : ℕ) → AreElements element (entry none g i)
elements_by_row element none g h i j = h.at (i * g.cols + j)

-- the entries of a square
pub entries_at : {F : Type 0} (none : F) (r c k : ℕ) (f : ℕ → ℕ → F) (g : Grid F) → r ≡ k → c ≡ k → HasEntries none r c f g → (i j : ℕ) → i < k → j < k → entry none g i j ≡ f i j
entries_at none r c k f g er ec h i j li lj = h.at i j (rw er li) (rw ec lj)

pub shape_at : {F : Type 0} (r c k : ℕ) (g : Grid F) → r ≡ k → c ≡ k → HasShape r c g → HasShape k k g
shape_at r c k g er ec h = record { rows = h.rows ∙ er; cols = h.cols ∙ ec }

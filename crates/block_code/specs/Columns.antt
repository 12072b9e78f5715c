-- The columns of a matrix as bytes.
use Rattle.std.specs.Prelude.{◌≡◌, ℕ, ◌<◌, ◌+◌, ◌*◌, List, length, slice_index}
use Rattle.lists.specs.Bytes.{AreBytes}
use Rattle.elim.specs.Grid.{Grid, entry}

-- the entries of a matrix, column after column
pub record AreColumns (g : Grid ℕ) (bytes : List ℕ) : Type 0 where
  pub count : length bytes ≡ g.cols * g.rows
  pub small : AreBytes bytes
  pub entries : (i j : ℕ) → i < g.rows → j < g.cols
      → slice_index bytes (j * g.rows + i) ≡ entry 0 g i j

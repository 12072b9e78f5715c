-- Rows of bytes, one behind the other.
use Rattle.std.specs.Prelude.{◌≡◌, ℕ, ◌+◌, ◌*◌, slice_index}
use Rattle.block_recovery.specs.declared.rows.Rows.{Rows}

-- byte c of row i
abbrev pub byte_in : Rows → ℕ → ℕ → ℕ
byte_in rows i c = slice_index rows.bytes.items (i * rows.size + c)

-- so many rows of so many bytes
pub record HasSizes (count size : ℕ) (rows : Rows) : Type 0 where
  pub rows_are : rows.count ≡ count
  pub bytes_are : rows.size ≡ size

pub record SameSizes (old new : Rows) : Type 0 where
  pub rows_same : new.count ≡ old.count
  pub bytes_same : new.size ≡ old.size

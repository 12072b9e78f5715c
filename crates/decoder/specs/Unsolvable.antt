-- Blocks of which enough symbols came, which are those of no object.
use Rattle.std.specs.Prelude.{◌≡◌, ℕ, ◌<◌, List, Option, Some}
use Rattle.lists.specs.Bytes.{AreBytes}
use Rattle.partition.specs.Fti.{Fti, block_count}
use Rattle.block_recovery.specs.Columns.{ColumnExplained}
use Rattle.block_recovery.specs.Decoded.{IsEnoughAt, IsUnexplained}

-- where enough symbols of the block came, polynomials explain them
abbrev pub IsSound : Fti → (ℕ → ℕ → Option (List ℕ)) → ℕ → Type 0
IsSound f at b =
    IsEnoughAt f b (at b) → (c : ℕ) → c < f.symbol_length → ColumnExplained f b (at b) c

-- each block is so
abbrev pub AreSound : Fti → (ℕ → ℕ → Option (List ℕ)) → Type 0
AreSound f at = (b : ℕ) → b < block_count f → IsSound f at b

-- enough symbols of the block came, and no polynomials explain them
pub record IsUnsound (f : Fti) (at : ℕ → ℕ → Option (List ℕ)) (b : ℕ) : Type 0 where
  pub in_range : b < block_count f
  pub enough : IsEnoughAt f b (at b)
  pub unexplained : IsUnexplained f b (at b)

-- some block is so
abbrev pub SomeUnsound : Fti → (ℕ → ℕ → Option (List ℕ)) → Type 0
SomeUnsound f at = (b : ℕ) × IsUnsound f at b

-- the symbols that stand so are bytes
abbrev pub HaveBytes : (ℕ → ℕ → Option (List ℕ)) → Type 0
HaveBytes at = (b j : ℕ) (y : List ℕ) → at b j ≡ Some y → AreBytes y

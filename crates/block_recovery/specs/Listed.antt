-- Source blocks in a list.
use Rattle.std.specs.Prelude.{◌≡◌, ◌<◌, ℕ, true, List, length, is_some, slice_index}
use Rattle.block_recovery.specs.Received.{came_at}
use Rattle.block_recovery.specs.declared.symbols.Symbols.{Symbols}

-- the block stands in the list
abbrev pub Stands : List ℕ → ℕ → Type 0
Stands blocks b = (i : ℕ) × (i < length blocks) × (slice_index blocks i ≡ b)

-- something came of each block of the list
abbrev pub HaveSome : {S : Type 0} → (S → List ℕ) → Symbols S → List ℕ → Type 0
HaveSome held s blocks = (i : ℕ) → i < length blocks
    → (j : ℕ) × (is_some (came_at held s (slice_index blocks i) j) ≡ true)

-- What is kept of a source block, for the symbols that stand at its ESIs: which of them came, and
-- by the block's bytes what they are.
use Rattle.std.specs.Prelude.{◌≡◌, ◌<◌, ◌≤◌, ◌*◌, ◌==◌, ◌||◌, ◌⊎◌, ℕ, Bool, false, List, [], ◌∷◌}
use Rattle.std.specs.Prelude.{length, filter, take, drop, slice_index, nat_le}
use Rattle.std.specs.Prelude.{Option, Some, None, is_some}
use Rattle.std.specs.List.{All}
use Rattle.lists.specs.Below.{below}
use Rattle.partition.specs.Fti.{Fti, source_count, encoding_count}
use Rattle.block_recovery.specs.Decoded.{AreRows}

-- whether an ESI is among these
abbrev pub is_among : List ℕ → ℕ → Bool
is_among [] j = false
is_among (e ∷ esis) j = e == j || is_among esis j

-- ---- which symbols came

-- the ESIs are the block's, each once
pub record IsOf (f : Fti) (b : ℕ) (esis : List ℕ) : Type 0 where
  pub within : All (λ e. e < encoding_count f b) esis
  pub once : length esis ≡ length (filter (is_among esis) (below (encoding_count f b)))

-- whether as many came as the block needs
abbrev pub is_solved : Fti → ℕ → List ℕ → Bool
is_solved f b esis = nat_le (source_count f b) (length esis)

-- ---- what they are, by the block's bytes

-- the symbol at a place among those that came, of so many bytes each
abbrev pub symbol_in : ℕ → List ℕ → ℕ → List ℕ
symbol_in size bytes i = take size (drop (i * size) bytes)

-- the symbols of these ESIs stand in the bytes, one behind the other
pub record AreSymbols (size : ℕ) (esis bytes : List ℕ) (at : ℕ → Option (List ℕ)) : Type 0 where
  pub whole : length esis * size ≤ length bytes
  pub came : (i : ℕ) → i < length esis
      → at (slice_index esis i) ≡ Some (symbol_in size bytes i)
  pub others : (j : ℕ) → is_among esis j ≡ false → at j ≡ None

-- fewer came than the block needs, and the bytes are the symbols themselves
pub record IsPending (f : Fti) (b : ℕ) (bytes esis : List ℕ) (at : ℕ → Option (List ℕ))
    : Type 0 where
  pub of : IsOf f b esis
  pub few : length esis < source_count f b
  pub symbols : AreSymbols f.symbol_length esis bytes at

-- as many came as it needs, or more, and the bytes are the source symbols that give them
pub record IsSolved (f : Fti) (b : ℕ) (bytes esis : List ℕ) (at : ℕ → Option (List ℕ))
    : Type 0 where
  pub of : IsOf f b esis
  pub enough : source_count f b ≤ length esis
  pub rows : AreRows f b at (take (source_count f b * f.symbol_length) bytes)
  pub seen : (j : ℕ) → is_among esis j ≡ is_some (at j)

-- what is kept of a block is for these symbols
abbrev pub IsStored : Fti → ℕ → List ℕ → List ℕ → (ℕ → Option (List ℕ)) → Type 0
IsStored f b bytes esis at = IsPending f b bytes esis at ⊎ IsSolved f b bytes esis at

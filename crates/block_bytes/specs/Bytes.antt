-- The bytes of source blocks that are kept, by the block's number, where they are told.
use Rattle.std.specs.Prelude.{◌≡◌, ◌≢◌, ◌≤◌, ◌+◌, ℕ, true, List, ◌++◌, length, take, drop}
use Rattle.std.specs.Prelude.{Option, Some, is_some, IfSome}
use Rattle.partition.specs.Fti.{Fti}

-- they are told, whatever the FTI is
abbrev pub AreTold : (Fti → Option (ℕ → List ℕ)) → Type 0
AreTold told = (f : Fti) → is_some (told f) ≡ true

-- these bytes stand in a block from a place on
abbrev pub StandIn : Option (ℕ → List ℕ) → ℕ → ℕ → List ℕ → Type 0
StandIn kept b from bytes = IfSome kept (λ x. bytes ≡ take (length bytes) (drop from (x b)))

-- they are told, and a block has so many of them, or more
abbrev pub IsThere : Option (ℕ → List ℕ) → ℕ → ℕ → Type 0
IsThere kept b count = (x : ℕ → List ℕ) × (kept ≡ Some x) × (count ≤ length (x b))

-- what is told has changed in one block alone, which has bytes of which this is so
pub record Becomes (old : ℕ → List ℕ) (new : Option (ℕ → List ℕ)) (b : ℕ)
    (Has : List ℕ → Type 0) : Type 0 where
  pub bytes : ℕ → List ℕ
  pub told : new ≡ Some bytes
  pub others : (a : ℕ) → b ≢ a → bytes a ≡ old a
  pub has : Has (bytes b)

-- these bytes stand behind those that the block has up to a place; no other block has changed
abbrev pub Puts : Option (ℕ → List ℕ) → Option (ℕ → List ℕ) → ℕ → ℕ → List ℕ → Type 0
Puts old new b from bytes = IfSome old (λ x. Becomes x new b
    (λ y. take (from + length bytes) y ≡ take from (x b) ++ bytes))

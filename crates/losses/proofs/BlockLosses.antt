-- What blocks can lose before one is short, whatever becomes of the carriers.
use Rattle.std.specs.Prelude.{◌≡◌, ℕ, ◌+◌, ◌<◌, ◌≤◌, Bool, true, List, length}
use Rattle.std.specs.List.{AllByRecursion}
use Rattle.lists.specs.Selection.{rest, loss_size, is_run, is_among}
use Rattle.losses.specs.Losses.{Blocks, is_enough, taken_wholly, IsBefore, LeavesShort}
use Rattle.lists.specs.Places.{IsRising}

-- what is left is enough for each block
abbrev pub KeepsBlocks : {X : Type 0} → Blocks X → List X → (ℕ → Bool) → Type 0
KeepsBlocks blocks xs lost = (b : ℕ) → b < blocks.count → is_enough blocks (rest lost xs) b ≡ true

abbrev pub BlocksBear : {X : Type 0} → Blocks X → List X → ℕ → Type 0
BlocksBear blocks xs m = (lost : ℕ → Bool) → loss_size lost xs ≤ m → KeepsBlocks blocks xs lost

pub record IsBlockMargin {X : Type 0} (blocks : Blocks X) (xs : List X) (m : ℕ) : Type 0 where
  pub bears : BlocksBear blocks xs m
  pub greatest : (n : ℕ) → BlocksBear blocks xs n → n ≤ m

abbrev pub BlocksBearRuns : {X : Type 0} → Blocks X → List X → ℕ → Type 0
BlocksBearRuns blocks xs m = (a : ℕ) → a + m ≤ length xs → KeepsBlocks blocks xs (is_run a m)

pub record IsBlockBurst {X : Type 0} (blocks : Blocks X) (xs : List X) (m : ℕ) : Type 0 where
  pub within : m ≤ length xs
  pub bears : BlocksBearRuns blocks xs m
  pub greatest : (n : ℕ) → n ≤ length xs → BlocksBearRuns blocks xs n → n ≤ m

pub record IsBlockKill {X : Type 0} (blocks : Blocks X) (xs : List X) (n block : ℕ) (places : List ℕ) : Type 0 where
  pub rising : IsRising places
  pub count : length places ≡ n
  pub within : AllByRecursion (λ p. p < length xs) places
  pub short : LeavesShort blocks xs n block (is_among places)
  pub least : (b : ℕ) (lost : ℕ → Bool) → LeavesShort blocks xs n b lost → block ≤ b
  pub first : (lost : ℕ → Bool) → LeavesShort blocks xs n block lost
      → ¬ IsBefore (taken_wholly blocks xs lost block) (taken_wholly blocks xs (is_among places) block)

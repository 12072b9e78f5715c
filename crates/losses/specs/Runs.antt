-- The longest run of neighbouring places from each place on whose loss is harmless.
use Rattle.std.specs.Prelude.{◌≡◌, ◌≢◌, ℕ, ◌+◌, ◌<◌, ◌≤◌, true, false, List, length, slice_index_or}
use Rattle.std.specs.Prelude.{Option, Some, None}
use Rattle.std.specs.List.{list_any}
use Rattle.lists.specs.Selection.{rest, is_run}
use Rattle.losses.specs.Losses.{Blocks, is_enough, IsHarmless}
use Rattle.losses.specs.declared.longest.Run.{Run}

-- what is left of a list isn't enough for this block, or has no carrier
abbrev pub Lacks : {X : Type 0} → Blocks X → List X → Option ℕ → Type 0
Lacks blocks left (Some b) = (b < blocks.count) × (is_enough blocks left b ≡ false)
Lacks blocks left None = list_any blocks.is_carrier left ≡ false

-- The loss of so many neighbours from place s on is harmless, and that of one more isn't: it leaves
-- the run's block short, or no carrier.
pub record IsLongestRun {X : Type 0} (blocks : Blocks X) (xs : List X) (s : ℕ) (run : Run) :
    Type 0 where
  pub within : s + run.length < length xs
  pub harmless : IsHarmless blocks xs (is_run s run.length)
  pub lacks : Lacks blocks (rest (is_run s (run.length + 1)) xs) run.block

-- the longest run from place s on, or none where every run from there is harmless
abbrev pub IsRunFrom : {X : Type 0} → Blocks X → List X → ℕ → Option Run → Type 0
IsRunFrom blocks xs s (Some run) = IsLongestRun blocks xs s run
IsRunFrom blocks xs s None = (m : ℕ) → s + m ≤ length xs → IsHarmless blocks xs (is_run s m)

-- what is left is enough for each block before this one, or at none for each block
abbrev pub IsEnoughBefore : {X : Type 0} → Blocks X → List X → Option ℕ → Type 0
IsEnoughBefore blocks left (Some b) = (a : ℕ) → a < b → is_enough blocks left a ≡ true
IsEnoughBefore blocks left None = (a : ℕ) → a < blocks.count → is_enough blocks left a ≡ true

-- the first place from which no more than so many neighbours may be missed, and the first block
-- that one more leaves short; none where that takes the carriers alone
pub record IsFirstBurst {X : Type 0} (blocks : Blocks X) (xs : List X) (size place : ℕ)
    (block : Option ℕ) : Type 0 where
  pub run : IsLongestRun blocks xs place (record { length = size; block = block })
  pub first : (p : ℕ) (other : Run) → p < place → IsLongestRun blocks xs p other
      → other.length ≢ size
  pub before : IsEnoughBefore blocks (rest (is_run place (size + 1)) xs) block

abbrev pub run_at : List (Option Run) → ℕ → Option Run
run_at runs s = slice_index_or runs s None

-- one for each place of a list
pub record AreRuns {X : Type 0} (blocks : Blocks X) (xs : List X) (runs : List (Option Run)) :
    Type 0 where
  pub count : length runs ≡ length xs
  pub each : (s : ℕ) → s < length xs → IsRunFrom blocks xs s (run_at runs s)

-- the least of their lengths
pub record IsLeastLength (runs : List (Option Run)) (n : ℕ) : Type 0 where
  pub start : ℕ
  pub run : Run
  pub is : run_at runs start ≡ Some run
  pub size : run.length ≡ n
  pub least : (s : ℕ) (other : Run) → run_at runs s ≡ Some other → n ≤ other.length

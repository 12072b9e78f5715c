-- What a list of packets, or of their numbers, can lose. A loss is a set of places of the list.
-- What is left has to be enough for each block, and has to have a carrier: a packet that tells what
-- the blocks are.
use Rattle.std.specs.Prelude.{◌≡◌, ℕ, ◌+◌, ◌<◌, ◌≤◌, ◌⊎◌, Bool, true, false, not, nat_le, cond}
use Rattle.std.specs.Prelude.{List, [], ◌∷◌, length, filter, Option, Some, None}
use Rattle.std.specs.List.{list_any}
use Rattle.lists.specs.Selection.{rest, loss_size, is_run, is_among}
use Rattle.lists.specs.Below.{below}
use Rattle.lists.specs.Places.{ArePlaces}

-- So many blocks, how many different symbols each of them needs, and whether a list has a symbol of
-- a block by its ESI; and which members of a list are carriers.
pub record Blocks (X : Type 0) : Type 0 where
  pub count : ℕ
  pub need : ℕ → ℕ
  pub has_symbol : List X → ℕ → ℕ → Bool
  pub is_carrier : X → Bool

-- the different ESIs of block b in a list, rising
abbrev pub esis_in : {X : Type 0} → Blocks X → List X → ℕ → List ℕ
esis_in blocks xs b = filter (blocks.has_symbol xs b) (below 256)

-- whether a list has as many different symbols of block b as it needs
abbrev pub is_enough : {X : Type 0} → Blocks X → List X → ℕ → Bool
is_enough blocks xs b = nat_le (blocks.need b) (length (esis_in blocks xs b))

-- the places of the members that pass, of a list whose first is at place i
abbrev pub places_from : {X : Type 0} → (X → Bool) → ℕ → List X → List ℕ
places_from passes i [] = []
places_from passes i (x ∷ xs) =
    cond (passes x) (i ∷ places_from passes (i + 1) xs) (places_from passes (i + 1) xs)

-- the places of the carriers, rising
abbrev pub carrier_places : {X : Type 0} → Blocks X → List X → List ℕ
carrier_places blocks xs = places_from blocks.is_carrier 0 xs

-- what is left is enough for each block, and has a carrier
pub record IsHarmless {X : Type 0} (blocks : Blocks X) (xs : List X)
    (lost : ℕ → Bool) : Type 0 where
  pub full : (b : ℕ) → b < blocks.count → is_enough blocks (rest lost xs) b ≡ true
  pub carrier : list_any blocks.is_carrier (rest lost xs) ≡ true

-- every loss of at most m places is harmless
abbrev pub Bears : {X : Type 0} → Blocks X → List X → ℕ → Type 0
Bears blocks xs m = (lost : ℕ → Bool) → loss_size lost xs ≤ m → IsHarmless blocks xs lost

-- the greatest such m
pub record IsMargin {X : Type 0} (blocks : Blocks X) (xs : List X) (m : ℕ) : Type 0 where
  pub bears : Bears blocks xs m
  pub greatest : (n : ℕ) → Bears blocks xs n → n ≤ m

-- every loss of m neighbouring places is harmless
abbrev pub BearsRuns : {X : Type 0} → Blocks X → List X → ℕ → Type 0
BearsRuns blocks xs m = (a : ℕ) → a + m ≤ length xs → IsHarmless blocks xs (is_run a m)

-- the greatest such m, up to the number of places
pub record IsBurst {X : Type 0} (blocks : Blocks X) (xs : List X) (m : ℕ) : Type 0 where
  pub within : m ≤ length xs
  pub bears : BearsRuns blocks xs m
  pub greatest : (n : ℕ) → n ≤ length xs → BearsRuns blocks xs n → n ≤ m

-- one list stands before another in a dictionary
abbrev pub IsBefore : List ℕ → List ℕ → Type 0
IsBefore [] (y ∷ ys) = Unit {0}
IsBefore (x ∷ xs) (y ∷ ys) = (x < y) ⊎ ((x ≡ y) × IsBefore xs ys)
IsBefore _ _ = ⊥

-- the ESIs of block b that a loss takes away wholly, rising
abbrev pub taken_wholly : {X : Type 0} → Blocks X → List X → (ℕ → Bool) → ℕ → List ℕ
taken_wholly blocks xs lost b =
    filter (λ j. not (blocks.has_symbol (rest lost xs) b j)) (esis_in blocks xs b)

-- a loss of n places that leaves block b short
pub record LeavesShort {X : Type 0} (blocks : Blocks X) (xs : List X) (n b : ℕ)
    (lost : ℕ → Bool) : Type 0 where
  pub size : loss_size lost xs ≡ n
  pub block : b < blocks.count
  pub short : is_enough blocks (rest lost xs) b ≡ false

-- The loss of these n places leaves this block short, the least that any loss of n places leaves
-- short; and of all losses of n places that leave it short it's the one whose list of ESIs wholly
-- taken away stands first in a dictionary.
pub record KillsBlock {X : Type 0} (blocks : Blocks X) (xs : List X) (n block : ℕ)
    (places : List ℕ) : Type 0 where
  pub short : LeavesShort blocks xs n block (is_among places)
  pub least : (b : ℕ) (lost : ℕ → Bool) → LeavesShort blocks xs n b lost → block ≤ b
  pub first : (lost : ℕ → Bool) → LeavesShort blocks xs n block lost
      → ¬ IsBefore (taken_wholly blocks xs lost block)
      (taken_wholly blocks xs (is_among places) block)

-- the loss of these n places kills this block; or it's that of all carriers, where no loss of n
-- places leaves a block short
abbrev pub Kills : {X : Type 0} → Blocks X → List X → ℕ → List ℕ → Option ℕ → Type 0
Kills blocks xs n places (Some block) = KillsBlock blocks xs n block places
Kills blocks xs n places None = (places ≡ carrier_places blocks xs)
    × ((b : ℕ) (lost : ℕ → Bool) → ¬ LeavesShort blocks xs n b lost)

-- n places, rising, whose loss kills this block, or takes all carriers
pub record IsKill {X : Type 0} (blocks : Blocks X) (xs : List X) (n : ℕ) (places : List ℕ)
    (block : Option ℕ) : Type 0 where
  pub count : length places ≡ n
  pub within : ArePlaces (length xs) places
  pub kills : Kills blocks xs n places block

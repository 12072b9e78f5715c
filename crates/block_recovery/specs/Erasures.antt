-- Which source symbols of a block are missing, which repair symbols came, and what is made of
-- these.
use Rattle.std.specs.Prelude.{◌≡◌, ◌≢◌, ℕ, ◌<◌, ◌≤◌, ◌+◌, Bool, true, not, is_some, List, length}
use Rattle.std.specs.Prelude.{filter, slice_index, Option}
use Rattle.lists.specs.Below.{below}
use Rattle.lists.specs.Bytes.{IsByte}
use Rattle.elim.specs.Erasures.{AreRising}
use Rattle.elim.specs.Matrices.{AreElements}
use Rattle.elim.specs.Grid.{Grid}
use Rattle.block_recovery.specs.Blocks.{byte_of, given}

-- the numbers from one to below another that pass a test, rising
pub record AreThose (t : ℕ → Bool) (from to : ℕ) (xs : List ℕ) : Type 0 where
  pub least : (i : ℕ) → i < length xs → from ≤ slice_index xs i
  pub most : (i : ℕ) → i < length xs → slice_index xs i < to
  pub pass : (i : ℕ) → i < length xs → t (slice_index xs i) ≡ true
  pub all : (j : ℕ) → from ≤ j → j < to → t j ≡ true → (i : ℕ) × (i < length xs)
      × (slice_index xs i ≡ j)
  pub rise : AreRising xs
  pub count : length (filter t (below to)) ≡ length (filter t (below from)) + length xs

-- the missing ones of the k source symbols, and the repair symbols that came, of n encoding symbols
pub record AreErased (at : ℕ → Option (List ℕ)) (k n : ℕ) (missing repair : List ℕ) : Type 0 where
  pub lost : AreThose (λ j. not (is_some (at j))) 0 k missing
  pub arrivals : AreThose (λ j. is_some (at j)) k n repair

-- the source symbol isn't among the missing ones
abbrev pub IsApart : List ℕ → ℕ → Type 0
IsApart missing i = (a : ℕ) → a < length missing → slice_index missing a ≢ i

-- the other rows than the missing ones are as they were
abbrev pub Keeps : List ℕ → ℕ → (ℕ → ℕ → ℕ) → (ℕ → ℕ → ℕ) → Type 0
Keeps missing size old new = (i c : ℕ) → IsApart missing i → c < size → new i c ≡ old i c

-- the rows give these repair symbols
abbrev pub Gives : (ℕ → Option (List ℕ)) → List ℕ → ℕ → Grid ℕ → (ℕ → ℕ → ℕ) → Type 0
Gives at repair size g rows =
    (m c : ℕ) → m < length repair → c < size
    → given g (λ i. rows i c) (slice_index repair m) ≡ byte_of (at (slice_index repair m)) c

-- a row that has the other source symbols and the repair symbols has the missing ones that are put
-- in their places
abbrev pub SolvesOnly : (ℕ → Option (List ℕ)) → List ℕ → List ℕ → ℕ → Grid ℕ → (ℕ → ℕ → ℕ)
    → (ℕ → ℕ → ℕ) → Type 0
SolvesOnly at missing repair size g old new =
    (c : ℕ) (x : ℕ → ℕ) → c < size → AreElements IsByte x
    → ((i : ℕ) → i < g.rows → IsApart missing i → x i ≡ old i c)
    → ((m : ℕ) → m < length repair
    → byte_of (at (slice_index repair m)) c ≡ given g x (slice_index repair m))
    → (a : ℕ) → a < length missing → new (slice_index missing a) c ≡ x (slice_index missing a)

-- the missing rows were made of these repair symbols
pub record AreSolved (at : ℕ → Option (List ℕ)) (missing repair : List ℕ) (size : ℕ) (g : Grid ℕ)
    (old new : ℕ → ℕ → ℕ) : Type 0 where
  pub kept : Keeps missing size old new
  pub gives : Gives at repair size g new
  pub only : SolvesOnly at missing repair size g old new

-- A block's source symbols that are missing, and as many repair symbols that came.
use Rattle.std.specs.Prelude.{◌≡◌, ◌<◌, ◌≤◌, ℕ, List, length, slice_index}
use Rattle.lists.specs.Bytes.{IsByte}
use Rattle.gf256.specs.Arithmetic.{sum_of, product}
use Rattle.gf256.specs.Sums.{row_times}
use Rattle.elim.specs.Matrices.{AreElements}
use Rattle.elim.specs.Grid.{Grid, entry}

-- each number is greater than those before it
abbrev pub AreRising : List ℕ → Type 0
AreRising xs = (i j : ℕ) → i < j → j < length xs → slice_index xs i < slice_index xs j

-- the ESIs of a block of k source symbols and n encoding symbols
pub record AreErasures (k n : ℕ) (missing repair : List ℕ) : Type 0 where
  pub some : 0 < length missing
  pub count : length repair ≡ length missing
  pub source : (i : ℕ) → i < length missing → slice_index missing i < k
  pub beyond : (i : ℕ) → i < length repair → k ≤ slice_index repair i
  pub within : (i : ℕ) → i < length repair → slice_index repair i < n
  pub missing_rise : AreRising missing
  pub repair_rise : AreRising repair

-- the entry that stands in one of these rows and one of these columns
abbrev pub part_entry : Grid ℕ → List ℕ → List ℕ → ℕ → ℕ → ℕ
part_entry g rows cols i j = entry 0 g (slice_index rows i) (slice_index cols j)

-- what the bytes x of the missing symbols add to the repair symbols, times the matrix w, is x; and
-- the bytes of missing symbols that w makes of the bytes s add s to the repair symbols
pub record Recovers (g : Grid ℕ) (missing repair : List ℕ) (w : Grid ℕ) : Type 0 where
  pub back : (x : ℕ → ℕ) → AreElements IsByte x → (a : ℕ) → a < length missing
      → row_times sum_of product 0
      (row_times sum_of product 0 x (part_entry g missing repair) (length missing)) (entry 0 w)
      (length missing) a ≡ x a
  pub forth : (s : ℕ → ℕ) → AreElements IsByte s → (m : ℕ) → m < length missing
      → row_times sum_of product 0 (row_times sum_of product 0 s (entry 0 w) (length missing))
      (part_entry g missing repair) (length missing) m ≡ s m

-- A list in columns.
use Rattle.std.specs.Prelude.{◌≡◌, ℕ, ◌*◌, ◌/◌, ◌<◌, ◌≤◌, List, length, slice_index}

-- where a column begins, of so many that share count places; the next begins where it ends
abbrev pub share : ℕ → ℕ → ℕ → ℕ
share count columns column = column * count / columns

-- no value is less, and one is equal
abbrev pub IsLeast : List ℕ → ℕ → Type 0
IsLeast values least = ((i : ℕ) → i < length values → least ≤ slice_index values i)
    × (i : ℕ) × (i < length values) × (slice_index values i ≡ least)

-- no value is greater, and one is equal
abbrev pub IsGreatest : List ℕ → ℕ → Type 0
IsGreatest values greatest = ((i : ℕ) → i < length values → slice_index values i ≤ greatest)
    × (i : ℕ) × (i < length values) × (slice_index values i ≡ greatest)

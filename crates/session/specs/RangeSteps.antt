-- Ranges that are gone over place by place.
use Rattle.std.specs.Prelude.{◌≡◌, ◌≤◌, ℕ, ◌&&◌, nat_lt, nat_le, List, length, take}
use Rattle.std.specs.List.Sorted.{IsNonDecreasingBy}
use Rattle.session.specs.Ranges.{is_in_some}
use Rattle.session.specs.declared.range.PlaceRange.{PlaceRange}

-- no range begins before the one before it
abbrev pub AreByFirst : List PlaceRange → Type 0
AreByFirst ranges = IsNonDecreasingBy (λ range. range.first) ranges

-- these are the same places
abbrev pub HaveSamePlaces : List PlaceRange → List PlaceRange → Type 0
HaveSamePlaces ranges others = (place : ℕ) → is_in_some others place ≡ is_in_some ranges place

-- So many of the ranges are known to begin at a place or before it. From there on they have the
-- places up to the last, if they are some.
pub record HaveBegun (ranges : List PlaceRange) (count last place : ℕ) : Type 0 where
  pub rising : AreByFirst ranges
  pub within : count ≤ length ranges
  pub none : count ≡ 0 → last ≡ 0
  pub over : (q : ℕ) → place ≤ q
      → is_in_some (take count ranges) q ≡ (nat_lt 0 count && nat_le q last)

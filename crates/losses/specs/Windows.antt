-- Windows of places.
use Rattle.std.specs.Prelude.{◌≡◌, ℕ, ◌+◌, ◌-◌, ◌<◌, ◌≤◌, ◌==◌, nat_lt, cond, List, [], ◌∷◌, length}
use Rattle.std.specs.Prelude.{filter, slice_index, slice_index_or}
use Rattle.losses.specs.Number.{Number}
use Rattle.losses.specs.declared.groups.Member.{Member}
use Rattle.lists.specs.Below.{below}
use Rattle.losses.specs.Members.{different_outside}

abbrev pub member : ℕ → ℕ → Member
member place esi = record { place = place; esi = esi }

-- the members of block b, of numbers whose first is at place i
abbrev pub members : ℕ → ℕ → List Number → List Member
members b i [] = []
members b i (p ∷ ps) =
    cond (p.block == b) (member i p.esi ∷ members b (i + 1) ps) (members b (i + 1) ps)

-- how many of 256 counts aren't zero
unfoldable pub filled : List ℕ → ℕ
filled counts = length (filter (λ j. nat_lt 0 (slice_index counts j)) (below 256))

abbrev pub place_at : List Member → ℕ → ℕ
place_at qs i = (slice_index_or qs i (member 0 0)).place

-- the places rise
abbrev pub ArePlaced : List Member → Type 0
ArePlaced qs = (i j : ℕ) → i < j → j < length qs → place_at qs i < place_at qs j

-- the members from x up to y leave fewer than k
pub record IsShortWindow (qs : List Member) (k x y : ℕ) : Type 0 where
  pub some : x < y
  pub within : y ≤ length qs
  pub short : different_outside qs x y < k

-- from the first to the last place of the narrowest such window
pub record IsLeastGap (qs : List Member) (k gap : ℕ) : Type 0 where
  pub start : ℕ
  pub end : ℕ
  pub is : IsShortWindow qs k start end
  pub size : place_at qs start + gap ≡ place_at qs (end - 1)
  pub least : (x y : ℕ) → IsShortWindow qs k x y → place_at qs x + gap ≤ place_at qs (y - 1)

-- Places of a list by ranges.
use Rattle.std.specs.Prelude.{ℕ, Bool, ◌&&◌, nat_le, max, if◌then◌else◌, List, [], ◌∷◌, Option}
use Rattle.std.specs.Prelude.{Some, None}
use Rattle.std.specs.List.{list_any}
use Rattle.session.specs.declared.range.PlaceRange.{PlaceRange}

-- whether a place is one of the range's: both its ends are
abbrev pub has_place : PlaceRange → ℕ → Bool
has_place range place = nat_le range.first place && nat_le place range.last

-- whether one of the ranges has it
abbrev pub is_in_some : List PlaceRange → ℕ → Bool
is_in_some ranges place = list_any (λ range. has_place range place) ranges

-- The first place that a list so long doesn't have, of the first range that has such a place.
abbrev pub first_unhad : ℕ → List PlaceRange → Option ℕ
first_unhad len [] = None
first_unhad len (range ∷ ranges) =
    if nat_le len range.last then Some (max len range.first) else first_unhad len ranges

-- Lists joined into one.
use Rattle.std.specs.Prelude.{ℕ, Bool, true, false, List, length, flat_map, slice_get}
use Rattle.std.specs.Option.{option_to_list}
use Rattle.lists.specs.Below.{below}

-- round r: the members at place r, list by list
abbrev pub round : {X : Type 0} → List (List X) → ℕ → List X
round lists r = flat_map (λ xs. option_to_list (slice_get xs r)) lists

-- one list after the other; or in turns, round by round: those behind the end of the longest list
-- are empty
abbrev pub joined : {X : Type 0} → Bool → List (List X) → List X
joined false lists = flat_map (λ xs. xs) lists
joined true lists = flat_map (round lists) (below (length (flat_map (λ xs. xs) lists)))

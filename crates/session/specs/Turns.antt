-- Lists joined round by round, up to the end of the longest.
use Rattle.std.specs.Prelude.{ℕ, zero, suc, max, Bool, List, [], ◌∷◌, ◌++◌, length, flat_map}
use Rattle.std.specs.Prelude.{slice_get, if◌then◌else◌}
use Rattle.std.specs.Option.{option_to_list}
use Rattle.session.specs.Joined.{round}

-- the member at place r of a list that has one
abbrev pub at_round : {X : Type 0} → ℕ → List X → List X
at_round r xs = option_to_list (slice_get xs r)

-- the first n rounds
abbrev pub rounds : {X : Type 0} → List (List X) → ℕ → List X
rounds lists zero = []
rounds lists (suc n) = rounds lists n ++ round lists n

-- how many members the longest has
abbrev pub longest : {X : Type 0} → List (List X) → ℕ
longest [] = 0
longest (xs ∷ lists) = max (length xs) (longest lists)

-- one member of each list in turn, lists that have ended being passed over
abbrev pub in_turns : {X : Type 0} → List (List X) → List X
in_turns lists = rounds lists (longest lists)

-- one list after the other
abbrev pub one_after_other : {X : Type 0} → List (List X) → List X
one_after_other lists = flat_map (λ xs. xs) lists

abbrev pub taken : {X : Type 0} → Bool → List (List X) → List X
taken turns lists = if turns then in_turns lists else one_after_other lists

-- Places on a line.
use Rattle.std.specs.Prelude.{ℕ, ◌+◌, ◌*◌, ◌/◌, min, nat_le, List, [], ◌∷◌, find, unwrap_or}

-- where a place of so many stands on a line from start; those behind the end stand at its end
abbrev pub scaled : ℕ → ℕ → ℕ → ℕ → ℕ
scaled start length count place = start + min place count * length / count

-- the steps from one line of an axis to the next
abbrev pub units : List ℕ
units =
    1 ∷ 2 ∷ 5 ∷ 10 ∷ 20 ∷ 50 ∷ 100 ∷ 200 ∷ 500 ∷ 1000 ∷ 2000 ∷ 5000 ∷ 10000 ∷ 20000 ∷ 50000
    ∷ 100000 ∷ 200000 ∷ 500000 ∷ 1000000 ∷ 2000000 ∷ 5000000 ∷ 10000000 ∷ []

-- the first of these units of which five reach a value; where none does, the value
abbrev pub unit_of : List ℕ → ℕ → ℕ
unit_of units value = unwrap_or (find (λ unit. nat_le value (unit * 5)) units) value

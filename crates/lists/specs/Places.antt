-- Places of a list, rising.
use Rattle.std.specs.Prelude.{ℕ, ◌<◌, List, [], ◌∷◌}
use Rattle.std.specs.List.{AllByRecursion}

-- rising, each number once
abbrev pub IsRising : List ℕ → Type 0
IsRising [] = Unit {0}
IsRising (x ∷ xs) = AllByRecursion (λ y. x < y) xs × IsRising xs

-- places of a list that is n long, rising
abbrev pub ArePlaces : ℕ → List ℕ → Type 0
ArePlaces n ps = IsRising ps × AllByRecursion (λ p. p < n) ps

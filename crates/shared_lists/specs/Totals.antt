-- Sums of lengths.
use Rattle.std.specs.Prelude.{ℕ, ◌+◌, List, [], ◌∷◌}

-- how many values lists of these lengths have
abbrev pub total : List ℕ → ℕ
total [] = 0
total (n ∷ lengths) = n + total lengths

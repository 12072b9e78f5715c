-- What is written piece by piece.
use Rattle.std.specs.Prelude.{ℕ, List, take, Option}
use Rattle.std.specs.Io.KnownBytes.{Appends}

-- what was written, where it is told, is a beginning of these bytes
abbrev pub AppendsSome : Option (List ℕ) → Option (List ℕ) → List ℕ → Type 0
AppendsSome old new bytes = (n : ℕ) × Appends old new (take n bytes)

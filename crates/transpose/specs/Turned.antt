-- Squares of bytes that are turned.
use Rattle.std.specs.Prelude.{◌≡◌, ◌<◌, ℕ, List, [], slice_index, slice_index_or}

-- the byte in row r and lane l
abbrev pub byte : List (List ℕ) → ℕ → ℕ → ℕ
byte rows r l = slice_index (slice_index_or rows r []) l

-- rows and lanes have changed places
abbrev pub IsTurned : List (List ℕ) → List (List ℕ) → Type 0
IsTurned old new = (r l : ℕ) → r < 16 → l < 16 → byte new r l ≡ byte old l r

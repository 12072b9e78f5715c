-- Rows of bytes, one behind the other.
use Rattle.std.specs.Prelude.{◌≡◌, ℕ, ◌<◌, ◌+◌, ◌*◌, List, take, drop, slice_index}
use Rattle.partition.specs.Fti.{Fti, source_count, source_byte}

-- row r of rows of so many bytes
abbrev pub row_at : ℕ → List ℕ → ℕ → List ℕ
row_at size rows r = take size (drop (r * size) rows)

-- these bytes, with zeros behind them, begin with the source symbols of block b of the object
abbrev pub AreSourcesOf : Fti → List ℕ → ℕ → List ℕ → Type 0
AreSourcesOf f object b bytes =
    (i c : ℕ) → i < source_count f b → c < f.symbol_length
    → slice_index bytes (i * f.symbol_length + c) ≡ source_byte f object b i c

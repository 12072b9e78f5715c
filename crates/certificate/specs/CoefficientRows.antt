-- A certificate's coefficients row by row, and where they stand in a text without a name.
use Rattle.std.specs.Prelude.{◌≡◌, ℕ, ◌<◌, ◌+◌, ◌*◌, List, slice_index}
use Rattle.partition.specs.Fti.{Fti, source_count, start_of, source_byte}
use Rattle.certificate.specs.Certificate.{Certificate, coefficient}

-- in row i coefficient i of the polynomial of each column of block b
abbrev pub AreRowsOf : Certificate → ℕ → List ℕ → Type 0
AreRowsOf z b rows =
    (i c : ℕ) → i < source_count z.fti b → c < z.fti.symbol_length
    → slice_index rows (i * z.fti.symbol_length + c) ≡ coefficient z b c i

-- these bytes, with zeros behind them, are source symbol i of block b of the object
abbrev pub IsSourceSymbol : Fti → List ℕ → ℕ → ℕ → List ℕ → Type 0
IsSourceSymbol f object b i bytes =
    (c : ℕ) → c < f.symbol_length → slice_index bytes c ≡ source_byte f object b i c

-- where coefficient i of column c of block b stands among those that are told column by column
abbrev pub text_place : Fti → ℕ → ℕ → ℕ → ℕ
text_place f b c i = start_of f b * f.symbol_length + (c * source_count f b + i)

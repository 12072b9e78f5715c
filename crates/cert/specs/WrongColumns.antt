-- Columns of a symbol, one after the other.
use Rattle.std.specs.Prelude.{ℕ, zero, suc, ◌+◌, ◌==◌, if◌then◌else◌, slice_index, Option, Some}
use Rattle.std.specs.Prelude.{None}
use Rattle.reception.specs.Symbols.{Symbol}
use Rattle.certificate.specs.Certificate.{Certificate, certified_byte}

-- the first of n columns, from column c on, in which the symbol isn't the certified one
abbrev pub wrong_column : Certificate → Symbol → ℕ → ℕ → Option ℕ
wrong_column z s c zero = None
wrong_column z s c (suc n) =
    if slice_index s.bytes c == certified_byte z s.block s.esi c then wrong_column z s (c + 1) n
    else Some c

-- Bytes.
use Rattle.std.specs.Prelude.{ℕ, ◌<◌, List, slice_index}

abbrev pub IsByte : ℕ → Type 0
IsByte a = a < 256

-- each member is a byte
abbrev pub AreBytes : List ℕ → Type 0
AreBytes xs = (i : ℕ) → slice_index xs i < 256

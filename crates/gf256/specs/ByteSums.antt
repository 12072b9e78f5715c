-- Sums of bytes.
use Rattle.std.specs.Prelude.{ℕ}
use Rattle.gf256.specs.Arithmetic.{sum_of}
use Rattle.gf256.specs.Sums.{sum_below}

-- the sum of the first n bytes
abbrev pub byte_sum : ℕ → (ℕ → ℕ) → ℕ
byte_sum n f = sum_below sum_of 0 f n

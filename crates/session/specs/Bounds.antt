-- Where a datagram stands among others in one buffer.
use Rattle.std.specs.Prelude.{ℕ, zero, suc, List, slice_index}

-- where the piece at a place begins
abbrev pub begin : ℕ → List ℕ → ℕ → ℕ
begin from ends zero = from
begin from ends (suc i) = slice_index ends i

use Rattle.std.proofs.Common.{◌≡◌, ℕ, ◌<◌, ◌≤◌, ◌+◌, get_or, length}
use Rattle.gf256.proofs.bit_lists.coefficients_from.Given as goal

abbrev pub invariant-loop-i : goal.invariant-loop-i
invariant-loop-i l = (length l.bytes ≡ 16) × ((j : ℕ) → j < l.i → get_or l.bytes j 0 ≡ get_or l.coefficients (l.at + j) 0) × ((j : ℕ) → l.i ≤ j → get_or l.bytes j 0 ≡ 0)

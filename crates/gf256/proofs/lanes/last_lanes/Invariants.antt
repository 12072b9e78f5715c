use Rattle.std.proofs.Common.{◌≡◌, ℕ, ◌<◌, ◌≤◌, ◌+◌, get_or, length}
use Rattle.gf256.proofs.lanes.last_lanes.Given as goal

abbrev pub invariant-loop-t : goal.invariant-loop-t
invariant-loop-t l = (length l.last ≡ 64) × ((i : ℕ) → i < l.t → get_or l.last i 0 ≡ get_or l.bytes (l.at + i) 0) × ((i : ℕ) → l.t ≤ i → i < 64 → get_or l.last i 0 ≡ 0)

use Rattle.std.proofs.Common.{◌≡◌, ℕ, ◌<◌, ◌≤◌, ◌+◌, bit_xor, get_or}
use Rattle.gf256.proofs.lanes.add_lanes.Given as goal

abbrev pub invariant-loop-t : goal.invariant-loop-t
invariant-loop-t l = record {
  done : (i : ℕ) → i < l.t → get_or l.bytes (l.at + i) 0 ≡ bit_xor (get_or l.fn.bytes (l.at + i) 0) (get_or l.fn.v i 0);
  below : (p : ℕ) → p < l.at → get_or l.bytes p 0 ≡ get_or l.fn.bytes p 0;
  above : (p : ℕ) → l.at + l.t ≤ p → get_or l.bytes p 0 ≡ get_or l.fn.bytes p 0;
}

use Rattle.std.proofs.Common.{◌≡◌, ℕ, ◌<◌, ◌+◌, ◌-◌, ◌^◌, get_or}
use Rattle.gf256.specs.Slices.{bit, lane}
use Rattle.gf256.proofs.bit_lists.numbers.Given as goal

abbrev pub invariant-loop-x : goal.invariant-loop-x
invariant-loop-x l = record {
  bits : (i y : ℕ) → i < 16 → y < l.x → bit y (get_or l.sum i 0) ≡ bit l.down (lane l.parts (l.size - l.x + y) i);
  small : (i : ℕ) → i < 16 → get_or l.sum i 0 < 2 ^ l.x;
}

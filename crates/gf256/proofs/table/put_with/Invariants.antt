use Rattle.std.proofs.Common.{◌≡◌, ℕ, ◌<◌, ◌+◌, bit_xor, get_or}
use Rattle.gf256.specs.Slices.{entry_byte}
use Rattle.gf256.proofs.table.put_with.Given as goal

abbrev pub invariant-loop-p : goal.invariant-loop-p
invariant-loop-p l = record {
  done : (p t : ℕ) → p < l.p → t < 64 → entry_byte l.table (l.at + l.have + p) t ≡ bit_xor (entry_byte l.fn.table (l.at + p) t) (get_or l.v t 0);
  below : (p t : ℕ) → p < l.at + l.have → t < 64 → entry_byte l.table p t ≡ entry_byte l.fn.table p t;
}

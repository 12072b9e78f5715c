use Rattle.std.proofs.Common.{◌≡◌, ◌<◌, ℕ, length, slice_index}
use Rattle.block_recovery.proofs.erasure.source_esis.Given as goal

abbrev pub invariant-loop-i : goal.invariant-loop-i
invariant-loop-i l = record {
  len : length l.esis.items ≡ l.i;
  all : (i : ℕ) → i < l.i → slice_index l.esis.items i ≡ i;
}

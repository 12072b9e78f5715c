use Rattle.std.proofs.Common.{◌≡◌, ◌<◌, ◌+◌, ◌*◌, ℕ, length, slice_index}
use Rattle.block_recovery.specs.Blocks.{bytes_of_esi, byte_of}
use Rattle.block_recovery.proofs.recovering.symbols_at.Given as goal

abbrev pub invariant-loop-m : goal.invariant-loop-m
invariant-loop-m l = record {
  count : length l.bytes.items ≡ l.m * l.block.size;
  done : (m c : ℕ) → m < l.m → c < l.block.size
      → slice_index l.bytes.items (m * l.block.size + c) ≡ byte_of (bytes_of_esi l.block.received.now (slice_index l.esis m)) c;
}

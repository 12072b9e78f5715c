use Rattle.std.specs.Prelude.{is_some, ◌==◌, ◌||◌}
use Rattle.std.proofs.Common.{◌≡◌, ◌<◌, ℕ, List, Option, Some, length}
use Rattle.block_recovery.specs.Arrivals.{with_esi}
use Rattle.block_recovery.specs.Blocks.{bytes_of_esi}
use Rattle.receiver.specs.Stored.{is_among, AreSymbols}
use Rattle.receiver.proofs.pending_block.symbols_with.Given as goal

abbrev pub invariant-loop-esi : goal.invariant-loop-esi
invariant-loop-esi l = record {
  len : length l.symbols.items ≡ l.esi;
  sizes : (j : ℕ) (y : List ℕ) → j < l.esi → bytes_of_esi l.symbols.items j ≡ Some y → length y ≡ length l.last;
  some : (j : ℕ) → j < l.esi → is_some (bytes_of_esi l.symbols.items j) ≡ (l.last_esi == j || is_among l.esis j);
  at : (at : ℕ → Option (List ℕ)) → AreSymbols (length l.last) l.esis l.bytes at
      → (j : ℕ) → j < l.esi → bytes_of_esi l.symbols.items j ≡ with_esi at l.last_esi l.last j;
}

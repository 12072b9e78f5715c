use Rattle.std.proofs.Common.{◌≡◌, ◌<◌, ℕ, length, take}
use Rattle.block_recovery.specs.Blocks.{bytes_of_esi}
use Rattle.block_recovery.specs.Arrivals.{arrived_at}
use Rattle.block_recovery.proofs.arrivals.symbols_below.Given as goal

abbrev pub invariant-loop-arrival : goal.invariant-loop-arrival
invariant-loop-arrival l = record {
  len : length l.symbols.items ≡ l.n;
  at : (j : ℕ) → j < l.n → bytes_of_esi l.symbols.items j ≡ arrived_at (λ s. s.now) (take l.arrival-index l.arrivals) j;
}

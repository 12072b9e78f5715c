use Rattle.std.proofs.Common.{◌≡◌, ◌+◌, ◌-◌, ◌<◌, ℕ, length, take}
use Rattle.std.specs.Prelude.{slice_index}
use Rattle.block_recovery.specs.Blocks.{bytes_of_esi, byte_of}
use Rattle.block_recovery.specs.Differences.{weight, weighted_sum}
use Rattle.block_recovery.proofs.padding.weighted_from.Given as goal

abbrev pub invariant-loop-esi : goal.invariant-loop-esi
invariant-loop-esi l = record {
  len : length l.sum.items ≡ l.size - l.from;
  sums : (c : ℕ) → c < l.size - l.from → slice_index l.sum.items c
      ≡ weighted_sum (weight l.esis) (λ j. byte_of (bytes_of_esi l.arrivals j) (l.from + c)) (take l.esi-index l.esis);
}

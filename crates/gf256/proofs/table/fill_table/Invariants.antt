use Rattle.std.proofs.Common.{◌≡◌, ℕ, ◌<◌, ◌+◌, ◌*◌, ◌^◌}
use Rattle.gf256.specs.Slices.{entry_byte, choice_sum, below, source_byte, IsFilled}
use Rattle.gf256.proofs.table.fill_table.Given as goal

abbrev pub invariant-loop-q : goal.invariant-loop-q
invariant-loop-q l = IsFilled l.table l.sources l.tiling l.at l.q

abbrev pub invariant-loop-x : goal.invariant-loop-x
invariant-loop-x l = record {
  power : l.have ≡ 2 ^ l.x;
  sums : (p t : ℕ) → p < 2 ^ l.x → t < 64 → entry_byte l.table (l.place + p) t ≡ choice_sum l.x p (λ x. below l.sources.count (l.q + x * l.tiling.groups) (source_byte l.sources (l.q + x * l.tiling.groups) (l.at + t)));
  others : IsFilled l.table l.sources l.tiling l.at l.q;
}

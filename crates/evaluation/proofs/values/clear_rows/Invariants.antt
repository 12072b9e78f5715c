use Rattle.std.proofs.Common.{◌≡◌, ℕ, ◌<◌, ◌≤◌, length}
use Rattle.gf256.specs.Slices.{lane}
use Rattle.evaluation.proofs.values.clear_rows.Given as goal

abbrev pub invariant-loop-p : goal.invariant-loop-p
invariant-loop-p l = record {
  long : length l.tile ≡ 256;
  zeros : (p t : ℕ) → l.from ≤ p → p < l.p → t < 64 → lane l.tile p t ≡ 0;
}

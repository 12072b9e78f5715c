use Rattle.std.proofs.Common.{◌≡◌, ℕ, ◌<◌, ◌≤◌, ◌+◌, length}
use Rattle.gf256.specs.Slices.{lane}
use Rattle.evaluation.specs.Sums.{coefficient}
use Rattle.evaluation.proofs.values.load.Given as goal

abbrev pub invariant-loop-p : goal.invariant-loop-p
invariant-loop-p l = record {
  long : length l.tile ≡ 256;
  loaded : (p t : ℕ) → p < l.p → t < 64 → lane l.tile p t ≡ coefficient l.bytes l.width (l.at + t) p;
  zeros : (p t : ℕ) → l.k ≤ p → p < 256 → t < 64 → lane l.tile p t ≡ 0;
}

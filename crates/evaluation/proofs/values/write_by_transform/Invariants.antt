use Rattle.std.proofs.Common.{◌≡◌, ℕ, ◌<◌, ◌+◌, ◌*◌, get_or}
use Rattle.evaluation.specs.Sums.{sum_at}
use Rattle.evaluation.proofs.values.write_by_transform.Given as goal

abbrev pub invariant-loop-t : goal.invariant-loop-t
invariant-loop-t l = record {
  done : (j c : ℕ) → j < l.points.count → c < l.coefficients.width → c < 64 * l.t → get_or l.symbols (j * l.coefficients.width + c) 0 ≡ sum_at l.coefficients.bytes.now l.coefficients.k l.coefficients.width c (l.points.first + j * l.points.step);
}

use Rattle.std.proofs.Common.{◌≡◌, length}
use Rattle.evaluation.specs.Transform.{AreTurned, rows_added}
use Rattle.evaluation.proofs.transform.add_rows.Given as goal

abbrev pub invariant-loop-i : goal.invariant-loop-i
invariant-loop-i l = record {
  long : length l.tile ≡ 256;
  turned : AreTurned l.fn.tile l.tile (rows_added l.i l.p l.q);
}

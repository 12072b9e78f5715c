use Rattle.elim.proofs.Elimination.{IsReduced}
use Rattle.elim.specs.Grid.{entry, HasElements, HasShape}
use Rattle.elim.proofs.eliminate.invert.Given as goal

abbrev pub invariant-loop-p : goal.invariant-loop-p
invariant-loop-p g l = record {
  work : HasShape l.m.rows l.m.rows l.work;
  right : HasShape l.m.rows l.m.rows l.right;
  work_elements : HasElements g.F.Field.element g.F.Field.ZERO l.work;
  right_elements : HasElements g.F.Field.element g.F.Field.ZERO l.right;
  reduced : IsReduced g.F.Field.element g.F.Field.sum g.F.Field.product g.F.Field.ZERO g.F.Field.ONE l.m.rows l.p
      (entry g.F.Field.ZERO l.m) (entry g.F.Field.ZERO l.work) (entry g.F.Field.ZERO l.right);
}

use Rattle.elim.proofs.Clearing.{IsClearedTo}
use Rattle.elim.specs.Grid.{entry, HasElements, HasShape}
use Rattle.elim.proofs.eliminate.clear.Given as goal

abbrev pub invariant-loop-i : goal.invariant-loop-i
invariant-loop-i g l = record {
  work : HasShape l.initial.work.rows l.initial.work.rows l.work;
  right : HasShape l.initial.work.rows l.initial.work.rows l.right;
  work_elements : HasElements g.F.Field.element g.F.Field.ZERO l.work;
  right_elements : HasElements g.F.Field.element g.F.Field.ZERO l.right;
  cleared : IsClearedTo g.F.Field.element g.F.Field.sum g.F.Field.product g.F.Field.ZERO g.F.Field.ONE l.initial.work.rows l.p l.i
      (entry g.F.Field.ZERO l.initial.work) (entry g.F.Field.ZERO l.initial.right) (entry g.F.Field.ZERO l.work) (entry g.F.Field.ZERO l.right);
}

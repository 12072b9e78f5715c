use Rattle.std.proofs.Common.{get_or}
use Rattle.elim.proofs.Filling.{IsRowTo}
use Rattle.elim.specs.Grid.{entry, HasElements, HasShape}
use Rattle.elim.proofs.matrix.Matrix.set_row.Given as goal

abbrev pub invariant-loop-j : goal.invariant-loop-j
invariant-loop-j g l = record {
  shape : HasShape l.initial.self.rows l.initial.self.cols l.self;
  elements : HasElements g.F.Field.element g.F.Field.ZERO l.self;
  row : IsRowTo l.initial.self.cols l.r l.j (λ j. g.F.Field.product l.c (get_or l.row j g.F.Field.ZERO)) (entry g.F.Field.ZERO l.initial.self) (entry g.F.Field.ZERO l.self);
}

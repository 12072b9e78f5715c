use Rattle.elim.proofs.Filling.{IsSwappedTo}
use Rattle.elim.specs.Grid.{entry, HasElements, HasShape}
use Rattle.elim.proofs.matrix.Matrix.swap_rows.Given as goal

abbrev pub invariant-loop-j : goal.invariant-loop-j
invariant-loop-j g l = record {
  shape : HasShape l.initial.self.rows l.initial.self.cols l.self;
  elements : HasElements g.F.Field.element g.F.Field.ZERO l.self;
  swapped : IsSwappedTo l.initial.self.cols l.a l.b l.j (entry g.F.Field.ZERO l.initial.self) (entry g.F.Field.ZERO l.self);
}

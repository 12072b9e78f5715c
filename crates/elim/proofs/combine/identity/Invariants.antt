use Rattle.elim.proofs.Filling.{IsFilledTo}
use Rattle.elim.specs.Matrices.{identity_entry}
use Rattle.elim.specs.Grid.{entry, HasElements, HasShape}
use Rattle.elim.proofs.combine.identity.Given as goal

abbrev pub invariant-loop-i : goal.invariant-loop-i
invariant-loop-i g l = record {
  shape : HasShape l.size l.size l.made;
  elements : HasElements g.F.Field.element g.F.Field.ZERO l.made;
  filled : IsFilledTo l.size l.i 0 (identity_entry g.F.Field.ZERO g.F.Field.ONE) (entry g.F.Field.ZERO l.made);
}

abbrev pub invariant-loop-j : goal.invariant-loop-j
invariant-loop-j g l = record {
  shape : HasShape l.size l.size l.made;
  elements : HasElements g.F.Field.element g.F.Field.ZERO l.made;
  filled : IsFilledTo l.size l.i l.j (identity_entry g.F.Field.ZERO g.F.Field.ONE) (entry g.F.Field.ZERO l.made);
}

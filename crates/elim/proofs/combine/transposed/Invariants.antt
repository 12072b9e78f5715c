use Rattle.elim.proofs.Filling.{IsFilledTo}
use Rattle.elim.specs.Grid.{entry, HasElements, HasShape}
use Rattle.elim.proofs.combine.transposed.Given as goal

abbrev pub invariant-loop-i : goal.invariant-loop-i
invariant-loop-i g l = record {
  shape : HasShape l.m.cols l.m.rows l.made;
  elements : HasElements g.F.Field.element g.F.Field.ZERO l.made;
  filled : IsFilledTo l.m.rows l.i 0 (λ i j. entry g.F.Field.ZERO l.m j i) (entry g.F.Field.ZERO l.made);
}

abbrev pub invariant-loop-j : goal.invariant-loop-j
invariant-loop-j g l = record {
  shape : HasShape l.m.cols l.m.rows l.made;
  elements : HasElements g.F.Field.element g.F.Field.ZERO l.made;
  filled : IsFilledTo l.m.rows l.i l.j (λ i j. entry g.F.Field.ZERO l.m j i) (entry g.F.Field.ZERO l.made);
}

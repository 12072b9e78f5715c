use Rattle.std.proofs.Common.{length}
use Rattle.elim.proofs.Filling.{IsFilledTo}
use Rattle.elim.specs.Vandermonde.{vandermonde_entry}
use Rattle.elim.specs.Grid.{entry, HasElements, HasShape}
use Rattle.elim.proofs.combine.vandermonde.Given as goal

abbrev pub invariant-loop-i : goal.invariant-loop-i
invariant-loop-i g l = record {
  shape : HasShape l.k (length l.points) l.made;
  elements : HasElements g.F.Field.element g.F.Field.ZERO l.made;
  filled : IsFilledTo (length l.points) l.i 0 (vandermonde_entry g.F.Field.product g.F.Field.ZERO g.F.Field.ONE l.points) (entry g.F.Field.ZERO l.made);
}

abbrev pub invariant-loop-j : goal.invariant-loop-j
invariant-loop-j g l = record {
  shape : HasShape l.k (length l.points) l.made;
  elements : HasElements g.F.Field.element g.F.Field.ZERO l.made;
  filled : IsFilledTo (length l.points) l.i l.j (vandermonde_entry g.F.Field.product g.F.Field.ZERO g.F.Field.ONE l.points) (entry g.F.Field.ZERO l.made);
}

use Rattle.lists.specs.Bytes.{IsByte}
use Rattle.elim.specs.Grid.{entry, HasElements, HasShape}
use Rattle.elim.proofs.Basis.{AreUnits}
use Rattle.elim.proofs.code.interpolator.Given as goal

abbrev pub invariant-loop-i : goal.invariant-loop-i
invariant-loop-i l = record {
  shape : HasShape l.k l.k l.made;
  elements : HasElements IsByte 0 l.made;
  units : AreUnits l.k l.i (entry 0 l.made);
}

use Rattle.std.proofs.Common.{take}
use Rattle.lists.specs.Bytes.{IsByte}
use Rattle.elim.specs.Grid.{entry, HasElements, HasShape}
use Rattle.elim.proofs.Filling.{IsFilledTo}
use Rattle.elim.proofs.Basis.{basis_at}
use Rattle.elim.proofs.code.generator.Given as goal

abbrev pub invariant-loop-i : goal.invariant-loop-i
invariant-loop-i l = record {
  shape : HasShape l.k l.n l.made;
  elements : HasElements IsByte 0 l.made;
  filled : IsFilledTo l.n l.i 0 (basis_at l.k (take l.k l.points.items)) (entry 0 l.made);
}

abbrev pub invariant-loop-j : goal.invariant-loop-j
invariant-loop-j l = record {
  shape : HasShape l.k l.n l.made;
  elements : HasElements IsByte 0 l.made;
  filled : IsFilledTo l.n l.i l.j (basis_at l.k (take l.k l.points.items)) (entry 0 l.made);
}

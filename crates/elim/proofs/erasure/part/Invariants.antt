use Rattle.lists.specs.Bytes.{IsByte}
use Rattle.std.proofs.Common.{length}
use Rattle.elim.proofs.Filling.{IsFilledTo}
use Rattle.elim.specs.Erasures.{part_entry}
use Rattle.elim.specs.Grid.{entry, HasElements, HasShape}
use Rattle.elim.proofs.erasure.part.Given as goal

abbrev pub invariant-loop-i : goal.invariant-loop-i
invariant-loop-i l = record {
  shape : HasShape (length l.rows) (length l.cols) l.made;
  elements : HasElements IsByte 0 l.made;
  filled : IsFilledTo (length l.cols) l.i 0 (part_entry l.m l.rows l.cols) (entry 0 l.made);
}

abbrev pub invariant-loop-j : goal.invariant-loop-j
invariant-loop-j l = record {
  shape : HasShape (length l.rows) (length l.cols) l.made;
  elements : HasElements IsByte 0 l.made;
  filled : IsFilledTo (length l.cols) l.i l.j (part_entry l.m l.rows l.cols) (entry 0 l.made);
}

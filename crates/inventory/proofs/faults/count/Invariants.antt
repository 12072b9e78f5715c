use Rattle.std.proofs.Common.{◌≡◌, ◌≤◌, count_by, take}
use Rattle.inventory.specs.Faults.{is_same_fault}
use Rattle.inventory.proofs.faults.count.Given as goal

abbrev pub invariant-loop-other : goal.invariant-loop-other
invariant-loop-other l = record {
  few : l.count ≤ l.other-index;
  counts : l.count ≡ count_by (is_same_fault l.fn.fault) (take l.other-index l.faults);
}

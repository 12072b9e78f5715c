use Rattle.std.proofs.Common.{◌≡◌, take}
use Rattle.std.specs.Prelude.{flat_map}
use Rattle.inventory.specs.Faults.{count_of}
use Rattle.inventory.specs.declared.faults.TheConstants.{FAULTS}
use Rattle.inventory.proofs.collecting.Summary.fault_counts.Given as goal

abbrev pub invariant-loop-fault : goal.invariant-loop-fault
invariant-loop-fault l = l.counts.items ≡ flat_map (count_of l.self.faults.items) (take l.fault-index FAULTS)

use Rattle.partition.proofs.FaultOrder.{tells_in_order}
use Rattle.partition.proofs.first_fault.fault_order.Goals as goal

pub returns : goal.returns
returns c = tells_in_order

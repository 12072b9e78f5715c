use Rattle.reception.specs.Answer.{clash}
use Rattle.reception.proofs.Order.{tells_in_order}
use Rattle.reception.proofs.laws.fault_order.Goals as goal

pub returns : goal.returns
returns c = tells_in_order clash

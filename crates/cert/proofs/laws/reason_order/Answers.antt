use Rattle.reception.proofs.Order.{tells_in_order}
use Rattle.cert.specs.Verdict.{uncertified}
use Rattle.cert.proofs.laws.reason_order.Goals as goal

pub returns : goal.returns
returns c = λ z. tells_in_order (uncertified z)

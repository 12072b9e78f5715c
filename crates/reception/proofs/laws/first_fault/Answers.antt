use Rattle.reception.specs.Reception.{asked}
use Rattle.reception.specs.Answer.{clash}
use Rattle.reception.proofs.First.{tells_the_first}
use Rattle.reception.proofs.laws.first_fault.Goals as goal

pub returns : goal.returns
returns c = λ who. tells_the_first clash (asked who)

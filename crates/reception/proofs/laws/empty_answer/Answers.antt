use Rattle.reception.proofs.Nothing.{tells_empty}
use Rattle.reception.proofs.laws.empty_answer.Goals as goal

pub returns : goal.returns
returns c = tells_empty

use Rattle.reception.proofs.OneAnswer.{one_answer}
use Rattle.decoder.proofs.selecting.one_answer.Goals as goal

pub returns : goal.returns
returns c = one_answer

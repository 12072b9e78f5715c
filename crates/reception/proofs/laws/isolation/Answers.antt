use Rattle.reception.proofs.PutBack.{is_isolated}
use Rattle.reception.proofs.laws.isolation.Goals as goal

pub returns : goal.returns
returns c = is_isolated

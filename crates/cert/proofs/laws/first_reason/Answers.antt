use Rattle.reception.specs.Reception.{with_fti}
use Rattle.reception.proofs.First.{tells_the_first}
use Rattle.cert.specs.Verdict.{uncertified}
use Rattle.cert.proofs.laws.first_reason.Goals as goal

pub returns : goal.returns
returns c = λ who z. tells_the_first (uncertified z) (with_fti who z.fti)

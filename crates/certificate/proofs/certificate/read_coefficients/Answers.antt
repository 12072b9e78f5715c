use Rattle.std.proofs.Common.{rules}
use Rattle.certificate.proofs.certificate.read_coefficients.Goals as goal

pub returns-in-Ok-2-clause-fault : goal.returns-in-Ok-2-clause-fault
returns-in-Ok-2-clause-fault g c = search rules

pub returns-in-Ok-2-clause-unsound : goal.returns-in-Ok-2-clause-unsound
returns-in-Ok-2-clause-unsound g c = search rules

use Rattle.std.proofs.Common.{rules}
use Rattle.certificate.proofs.certificate.Certificate.name.Goals as goal

pub returns-clause-value : goal.returns-clause-value
returns-clause-value c = search rules

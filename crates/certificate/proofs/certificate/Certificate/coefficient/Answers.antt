use Rattle.std.proofs.Common.{rules}
use Rattle.certificate.proofs.certificate.Certificate.coefficient.Goals as goal

pub returns : goal.returns
returns c = search rules

use Rattle.cert.proofs.OneVerdict.{one_verdict}
use Rattle.cert.proofs.laws.one_verdict.Goals as goal

pub returns : goal.returns
returns c = one_verdict

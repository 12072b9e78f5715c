use Rattle.cert.proofs.Named.{named_verdict}
use Rattle.cert.proofs.laws.own_name_changes_nothing.Goals as goal

pub returns : goal.returns
returns c = named_verdict

use Rattle.session.proofs.OneSession.{only, whole}
use Rattle.session.proofs.laws.one_session.Goals as goal

pub returns : goal.returns
returns c = record { only = only; whole = whole }

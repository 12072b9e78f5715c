use Rattle.std.proofs.Common.{rules}
use Rattle.session.proofs.session.Session.new.Goals as goal

pub returns : goal.returns
returns c = search rules

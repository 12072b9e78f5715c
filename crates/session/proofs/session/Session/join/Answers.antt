use Rattle.std.proofs.Common.{arith}
use Rattle.std.proofs.lemmas.Grind.{common_steps}
use Rattle.session.proofs.Joins.{same_joined}
use Rattle.session.proofs.session.Session.join.Goals as goal

pub returns-clause-joined : goal.returns-clause-joined
returns-clause-joined c = grind (arith, common_steps, same_joined) steps 2000000

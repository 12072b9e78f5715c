use Rattle.std.proofs.Common.{rules}
use Rattle.reception.proofs.scope.Scope.with_fti.Goals as goal

pub returns : goal.returns
returns c = search rules

use Rattle.receive_commands.proofs.Totalled.{good_status, bad_status}
use Rattle.receive_commands.proofs.totals.status_of.Goals as goal

pub returns-then-has_faults-clause-value : goal.returns-then-has_faults-clause-value
returns-then-has_faults-clause-value c = λ rs told. bad_status rs (c.has_faults.ensures.some c.if-has_faults.true rs told)

pub returns-else-has_faults-clause-value : goal.returns-else-has_faults-clause-value
returns-else-has_faults-clause-value c = λ rs told. good_status rs (c.has_faults.ensures.none c.if-has_faults.false rs told)

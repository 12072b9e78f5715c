use Rattle.std.proofs.Common.{rules}
use Rattle.session.proofs.frame.read_length.Goals as goal

pub returns-then-length-gt-MOST_BYTES-clause-fault :
    goal.returns-then-length-gt-MOST_BYTES-clause-fault
returns-then-length-gt-MOST_BYTES-clause-fault g c = search rules

pub returns-clause-some : goal.returns-clause-some
returns-clause-some g c = search rules

use Rattle.std.proofs.Common.{rules}
use Rattle.certificate.proofs.head.write_head.Goals as goal

pub returns-clause-ok : goal.returns-clause-ok
returns-clause-ok g c = search rules

pub returns-clause-err : goal.returns-clause-err
returns-clause-err g c = search rules

pub returns-clause-full : goal.returns-clause-full
returns-clause-full g c = search rules

pub returns-clause-fills : goal.returns-clause-fills
returns-clause-fills g c = search rules

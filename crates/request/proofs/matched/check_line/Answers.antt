use Rattle.std.proofs.Common.{codes, Some}
use Rattle.request.specs.Matching.{rows_in}
use Rattle.request.proofs.NamedLines.{flag_given}
use Rattle.request.proofs.matched.check_line.Goals as goal

pub flag-requires-2 : goal.flag-requires-2
flag-requires-2 c = flag_given (rows_in c.args.matches.now) (codes "no-clobber") (Some 110) c.requires.2.1.1.1.1.1.1.1.1.1.1.0

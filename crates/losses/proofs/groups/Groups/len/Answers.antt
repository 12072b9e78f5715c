use Rattle.std.proofs.Common.{arith}
use Rattle.losses.proofs.SharedGroups.{count_of}
use Rattle.losses.proofs.groups.Groups.len.Goals as goal

pub returns : goal.returns
returns c = omega (arith, c.len.ensures, count_of c.args.self.now)

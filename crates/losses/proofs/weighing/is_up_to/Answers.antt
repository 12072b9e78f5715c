use Rattle.std.proofs.Common.{rules}
use Rattle.losses.proofs.weighing.is_up_to.Goals as goal

pub returns-then-copies-threshold : goal.returns-then-copies-threshold
returns-then-copies-threshold c = search rules

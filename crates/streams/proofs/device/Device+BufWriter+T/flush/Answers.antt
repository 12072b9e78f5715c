use Rattle.std.proofs.Common.{rules}
use Rattle.streams.proofs.device.Device+BufWriter+T.flush.Goals as goal

pub returns-in-Ok-clause-passed : goal.returns-in-Ok-clause-passed
returns-in-Ok-clause-passed g c = search rules

use Rattle.std.proofs.Common.{rules}
use Rattle.streams.proofs.memory.SinkWrite.write.Goals as goal

pub returns-then-self-clause-full : goal.returns-then-self-clause-full
returns-then-self-clause-full c = search rules

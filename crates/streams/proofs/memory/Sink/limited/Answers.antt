use Rattle.std.proofs.Common.{rules}
use Rattle.streams.proofs.memory.Sink.limited.Goals as goal

pub returns-clause-room : goal.returns-clause-room
returns-clause-room c = search rules

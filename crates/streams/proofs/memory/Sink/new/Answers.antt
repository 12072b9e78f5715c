use Rattle.std.proofs.Common.{rules}
use Rattle.streams.proofs.memory.Sink.new.Goals as goal

pub returns-clause-room : goal.returns-clause-room
returns-clause-room c = search rules

use Rattle.std.proofs.Common.{rules}
use Rattle.streams.proofs.memory.Sink.reserved.Goals as goal

pub returns-clause-sure : goal.returns-clause-sure
returns-clause-sure c = search rules

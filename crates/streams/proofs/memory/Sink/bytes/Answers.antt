use Rattle.std.proofs.Common.{rules}
use Rattle.streams.proofs.memory.Sink.bytes.Goals as goal

pub returns : goal.returns
returns c = search rules

use Rattle.std.proofs.Common.{rules}
use Rattle.streams.proofs.memory.PiecesRead.read.Goals as goal

pub returns-clause-count : goal.returns-clause-count
returns-clause-count c = search rules

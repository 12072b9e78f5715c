use Rattle.std.proofs.Common.{rules}
use Rattle.host.proofs.memory.MemoryHost.new.Goals as goal

pub returns-clause-most : goal.returns-clause-most
returns-clause-most c = search rules

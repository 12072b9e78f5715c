use Rattle.std.proofs.Common.{rules}
use Rattle.host.proofs.memory.MemoryHost.files.Goals as goal

pub returns : goal.returns
returns c = search rules

use Rattle.std.proofs.Common.{rules}
use Rattle.alc.proofs.header.header_of.Goals as goal

pub returns-clause-found : goal.returns-clause-found
returns-clause-found c = search rules

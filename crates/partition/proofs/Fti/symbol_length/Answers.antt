use Rattle.std.proofs.Common.{rules}
use Rattle.partition.proofs.Fti.symbol_length.Goals as goal

pub returns-clause-value : goal.returns-clause-value
returns-clause-value c = search rules

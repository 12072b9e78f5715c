use Rattle.std.proofs.Common.{rules}
use Rattle.elim.proofs.matrix.Matrix.rows.Goals as goal

pub returns-clause-value : goal.returns-clause-value
returns-clause-value g c = search rules

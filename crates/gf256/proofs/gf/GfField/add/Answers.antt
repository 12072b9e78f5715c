use Rattle.std.proofs.Common.{rules}
use Rattle.gf256.proofs.gf.GfField.add.Goals as goal

pub returns-clause-value : goal.returns-clause-value
returns-clause-value c = search rules

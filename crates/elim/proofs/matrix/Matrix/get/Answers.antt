use Rattle.std.proofs.Common.{arith, rules}
use Rattle.std.proofs.lemmas.Grind.{common_steps, elements}
use Rattle.elim.proofs.matrix.Matrix.get.Goals as goal

pub index-requires : goal.index-requires
index-requires g c = search rules

pub returns-clause-value : goal.returns-clause-value
returns-clause-value g c = grind (arith, common_steps) steps 2000000

pub returns-clause-fits : goal.returns-clause-fits
returns-clause-fits g c = grind (arith, elements) steps 2000000

use Rattle.std.proofs.Common.{arith}
use Rattle.std.proofs.lemmas.Grind.{common_steps, elements}
use Rattle.elim.proofs.matrix.add_at.Goals as goal

pub returns-clause-here : goal.returns-clause-here
returns-clause-here g c = grind (arith, elements) steps 2000000

pub returns-clause-before : goal.returns-clause-before
returns-clause-before g c = grind (arith, common_steps) steps 2000000

pub returns-clause-after : goal.returns-clause-after
returns-clause-after g c = grind (arith, common_steps) steps 2000000

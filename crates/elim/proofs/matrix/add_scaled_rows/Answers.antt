use Rattle.std.proofs.Common.{arith}
use Rattle.std.proofs.lemmas.Grind.{common_steps, elements}
use Rattle.elim.proofs.matrix.add_scaled_rows.Goals as goal

pub returns-then-r-p-clause-here : goal.returns-then-r-p-clause-here
returns-then-r-p-clause-here g c = grind (arith, elements) steps 2000000

pub returns-then-r-p-clause-before : goal.returns-then-r-p-clause-before
returns-then-r-p-clause-before g c = grind (arith, common_steps) steps 2000000

pub returns-then-r-p-clause-after : goal.returns-then-r-p-clause-after
returns-then-r-p-clause-after g c = grind (arith, elements) steps 2000000

pub returns-else-r-p-clause-here : goal.returns-else-r-p-clause-here
returns-else-r-p-clause-here g c = grind (arith, elements) steps 2000000

pub returns-else-r-p-clause-before : goal.returns-else-r-p-clause-before
returns-else-r-p-clause-before g c = grind (arith, common_steps) steps 2000000

pub returns-else-r-p-clause-after : goal.returns-else-r-p-clause-after
returns-else-r-p-clause-after g c = grind (arith, elements) steps 2000000

use Rattle.std.proofs.Common.{arith}
use Rattle.std.proofs.lemmas.Grind.{common_steps, elements}
use Rattle.block_recovery.proofs.rows.Rows.add_products.Goals as goal

pub invariant_of-self : goal.invariant_of-self
invariant_of-self c = grind (arith, common_steps) steps 2000000

pub returns-clause-sums : goal.returns-clause-sums
returns-clause-sums c = grind (arith, elements) steps 2000000

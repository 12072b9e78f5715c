use Rattle.std.proofs.Common.{arith}
use Rattle.std.proofs.lemmas.Grind.{common_steps}
use Rattle.certificate.proofs.converting.read_block.Goals as goal

pub returns-then-got-most-clause-size : goal.returns-then-got-most-clause-size
returns-then-got-most-clause-size g c = grind (arith, common_steps) steps 2000000

pub loop-piece-preserved : goal.loop-piece-preserved
loop-piece-preserved g c = grind (arith, common_steps) steps 2000000

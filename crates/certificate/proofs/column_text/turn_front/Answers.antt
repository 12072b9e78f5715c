use Rattle.std.proofs.Common.{arith}
use Rattle.std.proofs.lemmas.Grind.{common_steps}
use Rattle.certificate.proofs.column_text.turn_front.Goals as goal

pub returns-clause-turned : goal.returns-clause-turned
returns-clause-turned c = grind (arith, common_steps) steps 2000000

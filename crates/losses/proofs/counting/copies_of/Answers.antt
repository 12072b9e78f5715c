use Rattle.std.proofs.Common.{rules, refl, arith}
use Rattle.std.proofs.lemmas.Grind.{common_steps}
use Rattle.losses.proofs.counting.copies_of.Goals as goal

pub loop-member-init : goal.loop-member-init
loop-member-init c = record { size = refl; counts = λ j h. (search (rules, common_steps)) }

pub overflow_add-copies : goal.overflow_add-copies
overflow_add-copies c = grind (arith, common_steps) steps 2000000

pub loop-member-preserved : goal.loop-member-preserved
loop-member-preserved c = grind (arith, common_steps) steps 2000000

pub returns : goal.returns
returns c = grind (arith, common_steps) steps 2000000

use Rattle.check_commands.proofs.Pictured.{can_be_summed}
use Rattle.check_commands.proofs.check.answer_of.Goals as goal

pub answer_verdict-requires-clause-summed : goal.answer_verdict-requires-clause-summed
answer_verdict-requires-clause-summed g c = can_be_summed _ _ _ _ _ c.requires _ c.in-Ok.ensures.verdict

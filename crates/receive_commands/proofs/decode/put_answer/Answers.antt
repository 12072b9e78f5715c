use Rattle.receive_commands.proofs.decode.put_answer.Goals as goal

pub returns-in-Missing : goal.returns-in-Missing
returns-in-Missing c = rw c.in-Missing.is c.short_block.ensures

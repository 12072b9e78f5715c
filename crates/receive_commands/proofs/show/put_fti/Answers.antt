use Rattle.std.proofs.Common.{codes, decimal}
use Rattle.commands.specs.Lines.{named}
use Rattle.commands.proofs.Gains.{gains_more}
use Rattle.receive_commands.proofs.show.put_fti.Goals as goal

pub returns-in_ok-text-in-None : goal.returns-in_ok-text-in-None
returns-in_ok-text-in-None c =
    rw c.in-None.is
    (gains_more c.named-in-None.result c.args.line.now c.text.new.self c.named-in-None.new.self (codes " no fti") (named (codes " symbol") (decimal c.args.size))
    c.in_ok-text-in-None.ensures.ok c.named-in-None.ensures)

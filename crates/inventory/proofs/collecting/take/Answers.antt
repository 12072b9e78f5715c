use Rattle.std.proofs.Common.{sym}
use Rattle.inventory.proofs.collecting.take.Goals as goal

pub returns-in-Some-clause-few : goal.returns-in-Some-clause-few
returns-in-Some-clause-few c = λ read few. few c.args.key c.in-Some.tally (sym c.in-Some.ensures.value)

use Rattle.receive_commands.proofs.Followed.{ended}
use Rattle.receive_commands.proofs.follow.end.Goals as goal

pub returns-in-Some : goal.returns-in-Some
returns-in-Some g c = λ r old new left is end.
    ended r old new left c.args.followed.now is end c.in-Some.answer c.in-Some.ensures.lack c.in-Some.ensures.answer

use Rattle.receive_commands.proofs.follow.follow.Goals as goal

pub returns-clause-fault : goal.returns-clause-fault
returns-clause-fault g c = c.give_up.ensures (g.H.Host.world c.args.host.now) (rw c.in-Err.is at c.listen-followed.ensures)

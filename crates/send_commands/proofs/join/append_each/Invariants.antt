use Rattle.std.proofs.Common.{◌∷◌, take}
use Rattle.commands.specs.Inputs.{ASession}
use Rattle.send_commands.specs.Opening.{AreAppended, sessions}
use Rattle.send_commands.proofs.join.append_each.Given as goal

abbrev pub invariant-loop-name : goal.invariant-loop-name
invariant-loop-name g l =
    AreAppended (g.H.Host.world l.host).files (ASession l.first ∷ sessions (take l.name-index l.others)) (g.W.Write.contents l.fn.writer) (g.W.Write.contents l.writer) l.count

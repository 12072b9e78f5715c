use Rattle.std.proofs.Common.{map, take}
use Rattle.send_commands.specs.Opening.{AreOpen}
use Rattle.send_commands.proofs.join.open_all.Given as goal

abbrev pub invariant-loop-name : goal.invariant-loop-name
invariant-loop-name g l = AreOpen (g.H.Host.world l.host).files (map (λ name. name.now) (take l.name-index l.names)) (map g.H.Input.Read.remaining l.inputs.items)

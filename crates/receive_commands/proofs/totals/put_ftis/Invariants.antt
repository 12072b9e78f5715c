use Rattle.std.proofs.Common.{◌≡◌, ◌++◌, take}
use Rattle.commands.specs.Totals.{fti_lines}
use Rattle.receive_commands.proofs.totals.put_ftis.Given as goal

abbrev pub invariant-loop-counted : goal.invariant-loop-counted
invariant-loop-counted l = l.lines ≡ l.initial.lines ++ fti_lines l.who (take l.counted-index l.ftis)

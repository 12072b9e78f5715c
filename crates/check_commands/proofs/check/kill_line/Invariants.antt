use Rattle.std.proofs.Common.{◌≡◌, take}
use Rattle.commands.specs.Lines.{kill_text}
use Rattle.check_commands.proofs.check.kill_line.Given as goal

abbrev pub invariant-loop-place : goal.invariant-loop-place
invariant-loop-place l = l.line ≡ kill_text (take l.place-index l.places)

use Rattle.std.proofs.Common.{◌≡◌, ◌++◌, take, flat_map}
use Rattle.commands.specs.Totals.{part_lines}
use Rattle.receive_commands.proofs.totals.put_parts.Given as goal

abbrev pub invariant-loop-part : goal.invariant-loop-part
invariant-loop-part l = l.lines ≡ l.initial.lines ++ flat_map part_lines (take l.part-index l.parts)

use Rattle.std.proofs.Common.{take}
use Rattle.request.specs.Building.{AddsCommands}
use Rattle.request.proofs.grammar.with_commands.Given as goal

abbrev pub invariant-loop-outline : goal.invariant-loop-outline
invariant-loop-outline l = AddsCommands l.fn.parser (take l.outline-index l.outlines) l.parser

use Rattle.std.proofs.Common.{map, take}
use Rattle.request.specs.Building.{AddsRules, rule_told}
use Rattle.request.proofs.grammar.with_arguments.Given as goal

abbrev pub invariant-loop-told : goal.invariant-loop-told
invariant-loop-told l = AddsRules l.fn.command (map rule_told (take l.told-index l.arguments)) l.command

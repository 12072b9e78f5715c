use Rattle.std.proofs.Common.{◌≡◌, ◌++◌, take, flat_map}
use Rattle.commands.specs.Lines.{line_of}
use Rattle.commands.specs.Totals.{count_text}
use Rattle.receive_commands.proofs.totals.put_counts.Given as goal

abbrev pub invariant-loop-count : goal.invariant-loop-count
invariant-loop-count l = l.lines ≡ l.initial.lines ++ flat_map (λ count. line_of (count_text count)) (take l.count-index l.counts)

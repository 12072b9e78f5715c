use Rattle.std.proofs.Common.{◌≡◌, ◌++◌, take}
use Rattle.std.specs.Prelude.{codes}
use Rattle.commands.specs.Lines.{line_of, numbered, block_text}
use Rattle.check_commands.proofs.check.report_lines.Given as goal

abbrev pub invariant-loop-block : goal.invariant-loop-block
invariant-loop-block l = l.lines ≡ line_of (codes "yes") ++ numbered (block_text (codes "block")) 0 (take l.block l.counts-items)

use Rattle.std.proofs.Common.{◌≡◌, map}
use Rattle.lists.specs.Below.{below}
use Rattle.losses.specs.Groups.{groups_of}
use Rattle.cert.specs.Scan.{line_in}
use Rattle.cert.proofs.tally.block_lines.Given as goal

abbrev pub invariant-loop-block : goal.invariant-loop-block
invariant-loop-block l = record {
  lines : l.blocks.items ≡ map (line_in (groups_of l.groups)) (below l.block);
}

use Rattle.std.proofs.Common.{◌≡◌, ◌++◌, take, drop, map}
use Rattle.alcrs_c.specs.Told.{told_block}
use Rattle.alcrs_c.proofs.told.put_blocks.Given as goal

abbrev pub invariant-loop-i : goal.invariant-loop-i
invariant-loop-i l = l.blocks ≡ take l.i (map told_block l.report.blocks.items) ++ drop l.i l.initial.blocks

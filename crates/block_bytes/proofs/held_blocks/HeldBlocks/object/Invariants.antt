use Rattle.std.proofs.Common.{◌≡◌}
use Rattle.block_bytes.specs.Held.{held_of}
use Rattle.block_bytes.specs.Parts.{object_below}
use Rattle.block_bytes.proofs.held_blocks.HeldBlocks.object.Given as goal

abbrev pub invariant-loop-b : goal.invariant-loop-b
invariant-loop-b l = l.object.items ≡ object_below l.fti (held_of l.self) l.b

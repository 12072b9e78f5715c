use Rattle.std.proofs.Common.{◌≤◌, ◌+◌, length}
use Rattle.std.specs.Io.KnownBytes.{Appends}
use Rattle.block_bytes.specs.Held.{held_of}
use Rattle.block_bytes.specs.Parts.{object_below}
use Rattle.block_bytes.proofs.held_blocks.HeldBlocks.write_object.Given as goal

abbrev pub invariant-loop-b : goal.invariant-loop-b
invariant-loop-b g l = record {
  bytes : Appends (g.W.Write.contents l.initial.writer) (g.W.Write.contents l.writer) (object_below l.fti (held_of l.self) l.b);
  room : g.W.Write.room l.initial.writer ≤ g.W.Write.room l.writer + length (object_below l.fti (held_of l.self) l.b);
}

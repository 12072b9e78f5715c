use Rattle.std.proofs.Common.{◌≤◌, ◌+◌, length}
use Rattle.std.specs.Prelude.{flat_map}
use Rattle.std.specs.Io.KnownBytes.{Appends}
use Rattle.lists.specs.Below.{below}
use Rattle.certificate.specs.Certificate.{polynomial}
use Rattle.certificate.proofs.column_text.write_block.Given as goal

abbrev pub invariant-loop-c : goal.invariant-loop-c
invariant-loop-c g l = record {
  sent : Appends (g.W.Write.contents l.initial.writer) (g.W.Write.contents l.writer) (flat_map (polynomial l.certificate l.b) (below l.c));
  room : g.W.Write.room l.initial.writer ≤ g.W.Write.room l.writer + length (flat_map (polynomial l.certificate l.b) (below l.c));
}

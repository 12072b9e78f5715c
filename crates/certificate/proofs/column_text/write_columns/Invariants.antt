use Rattle.std.proofs.Common.{◌≤◌, ◌+◌, length}
use Rattle.std.specs.Prelude.{flat_map}
use Rattle.std.specs.Io.KnownBytes.{Appends}
use Rattle.lists.specs.Below.{below}
use Rattle.certificate.specs.Certificate.{block_columns}
use Rattle.certificate.proofs.column_text.write_columns.Given as goal

abbrev pub invariant-loop-b : goal.invariant-loop-b
invariant-loop-b g l = record {
  sent : Appends (g.W.Write.contents l.initial.writer) (g.W.Write.contents l.writer) (flat_map (block_columns l.certificate) (below l.b));
  room : g.W.Write.room l.initial.writer ≤ g.W.Write.room l.writer + length (flat_map (block_columns l.certificate) (below l.b));
}

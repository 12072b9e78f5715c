use Rattle.std.proofs.Common.{◌≤◌, ◌+◌, ◌*◌}
use Rattle.partition.specs.Fti.{start_of}
use Rattle.encoder.specs.RowsWritten.{WritesRows}
use Rattle.encoder.proofs.certifying.write_rows.Given as goal

abbrev pub invariant-loop-b : goal.invariant-loop-b
invariant-loop-b g l = record {
  written : WritesRows l.object l.fti l.b (g.W.Write.contents l.initial.writer) (g.W.Write.contents l.writer);
  room : g.W.Write.room l.initial.writer ≤ g.W.Write.room l.writer + start_of l.fti l.b * l.fti.symbol_length;
}

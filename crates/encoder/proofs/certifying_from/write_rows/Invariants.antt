use Rattle.std.proofs.Common.{◌≡◌, ◌≤◌, ◌+◌, ◌*◌}
use Rattle.partition.specs.Fti.{start_of}
use Rattle.encoder.specs.BlocksRead.{HasRead}
use Rattle.encoder.specs.RowsWritten.{WritesRows}
use Rattle.encoder.proofs.certifying_from.write_rows.Given as goal

abbrev pub invariant-loop-b : goal.invariant-loop-b
invariant-loop-b g l = record {
  read : HasRead l.fti l.b (g.R.Read.remaining l.initial.reader) (g.R.Read.remaining l.reader)
      (λ object. WritesRows object l.fti l.b (g.W.Write.contents l.initial.writer) (g.W.Write.contents l.writer));
  room : g.W.Write.room l.initial.writer ≤ g.W.Write.room l.writer + start_of l.fti l.b * l.fti.symbol_length;
  stays : g.R.Read.sound l.reader ≡ g.R.Read.sound l.initial.reader;
}

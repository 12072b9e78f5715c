use Rattle.std.proofs.Common.{◌≡◌, ◌≤◌, ◌+◌, ◌*◌}
use Rattle.partition.specs.Fti.{start_of}
use Rattle.certificate.specs.ConvertingBlocks.{Converts}
use Rattle.certificate.proofs.converting.convert_blocks.Given as goal

abbrev pub invariant-loop-b : goal.invariant-loop-b
invariant-loop-b g l = record {
  converts : Converts l.head.name l.head.fti l.b (g.R.Read.remaining l.initial.reader) (g.R.Read.remaining l.reader) (g.W.Write.contents l.initial.writer) (g.W.Write.contents l.writer);
  room : g.W.Write.room l.initial.writer ≤ g.W.Write.room l.writer + start_of l.head.fti l.b * l.head.fti.symbol_length;
  stays : g.R.Read.sound l.reader ≡ g.R.Read.sound l.initial.reader;
}

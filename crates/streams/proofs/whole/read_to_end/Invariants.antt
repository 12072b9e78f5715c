use Rattle.std.proofs.Common.{◌≡◌}
use Rattle.std.specs.Io.KnownBytes.{Consumes}
use Rattle.streams.proofs.whole.read_to_end.Given as goal

abbrev pub invariant-loop-got : goal.invariant-loop-got
invariant-loop-got g l = record {
  bytes : Consumes (g.R.Read.remaining l.initial.reader) (g.R.Read.remaining l.reader) l.bytes.items;
  stays : g.R.Read.sound l.reader ≡ g.R.Read.sound l.initial.reader;
}

abbrev pub decreases-loop-got : goal.decreases-loop-got
decreases-loop-got g l = g.R.Read.left l.reader

use Rattle.std.proofs.Common.{length, ◌-◌, ◌≡◌, ◌≤◌, ◌+◌, take}
use Rattle.std.specs.Io.KnownBytes.{Consumes}
use Rattle.streams.proofs.filling.fill.Given as goal

abbrev pub invariant-loop-at : goal.invariant-loop-at
invariant-loop-at g l = record {
  within : l.at ≤ length l.buf;
  bytes : Consumes (g.R.Read.remaining l.initial.reader) (g.R.Read.remaining l.reader) (take l.at l.buf);
  falls : g.R.Read.left l.reader + l.at ≤ g.R.Read.left l.initial.reader;
  stays : g.R.Read.sound l.reader ≡ g.R.Read.sound l.initial.reader;
}

abbrev pub decreases-loop-at : goal.decreases-loop-at
decreases-loop-at g l = length l.initial.buf - l.at

use Rattle.std.proofs.Common.{◌≡◌, ℕ, List}
use Rattle.std.specs.Io.KnownBytes.{Consumes}
use Rattle.session.specs.Frames.{frames, AreShort}
use Rattle.session.proofs.copying.read_on.Given as goal

abbrev pub invariant-loop-datagram : goal.invariant-loop-datagram
invariant-loop-datagram g l = record {
  read : (ds : List (List ℕ)) × Consumes (g.R.Read.remaining l.initial.reader) (g.R.Read.remaining l.reader) (frames ds) × AreShort ds;
  stays : g.R.Read.sound l.reader ≡ g.R.Read.sound l.initial.reader;
}

abbrev pub decreases-loop-datagram : goal.decreases-loop-datagram
decreases-loop-datagram g l = g.R.Read.left l.reader

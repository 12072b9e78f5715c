use Rattle.std.proofs.Common.{◌≡◌, ℕ, List}
use Rattle.std.specs.Io.KnownBytes.{Consumes}
use Rattle.session.specs.Frames.{frames, AreDatagrams}
use Rattle.commands.proofs.frames.pass_rest.Given as goal

abbrev pub invariant-loop-datagram : goal.invariant-loop-datagram
invariant-loop-datagram g l = record {
  read : (ds : List (List ℕ)) × Consumes (g.R.Read.remaining l.initial.frames) (g.R.Read.remaining l.frames) (frames ds) × AreDatagrams ds;
  stays : g.R.Read.sound l.frames ≡ g.R.Read.sound l.initial.frames;
}

abbrev pub decreases-loop-datagram : goal.decreases-loop-datagram
decreases-loop-datagram g l = g.R.Read.left l.frames

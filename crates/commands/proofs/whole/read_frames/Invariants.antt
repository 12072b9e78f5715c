use Rattle.std.proofs.Common.{◌≡◌, ℕ, List}
use Rattle.std.specs.Io.KnownBytes.{Consumes}
use Rattle.session.specs.Frames.{frames, AreShort}
use Rattle.commands.proofs.whole.read_frames.Given as goal

abbrev pub invariant-loop-frames : goal.invariant-loop-frames
invariant-loop-frames g l = record {
  read : (ds : List (List ℕ)) × Consumes (g.R.Read.remaining l.initial.reader) (g.R.Read.remaining l.reader) (frames ds) × AreShort ds × (l.frames.bytes.items ≡ frames ds);
  stays : g.R.Read.sound l.reader ≡ g.R.Read.sound l.initial.reader;
}

abbrev pub decreases-loop-frames : goal.decreases-loop-frames
decreases-loop-frames g l = g.R.Read.left l.reader

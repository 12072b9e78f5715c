use Rattle.std.proofs.Common.{◌≡◌}
use Rattle.receive_commands.specs.Totalling.{AreCounted}
use Rattle.receive_commands.proofs.totals.read_all.Given as goal

abbrev pub invariant-loop-summary : goal.invariant-loop-summary
invariant-loop-summary g l = record {
  counted : AreCounted (g.R.Read.remaining l.initial.frames) (g.R.Read.remaining l.frames) l.summary;
  stays : g.R.Read.sound l.frames ≡ g.R.Read.sound l.initial.frames;
}

abbrev pub decreases-loop-summary : goal.decreases-loop-summary
decreases-loop-summary g l = g.R.Read.left l.frames

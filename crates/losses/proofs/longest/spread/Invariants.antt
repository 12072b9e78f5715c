use Rattle.std.proofs.Common.{◌-◌, ◌≤◌, length}
use Rattle.losses.specs.Starts.{AreSpread}
use Rattle.losses.proofs.longest.spread.Given as goal

abbrev pub invariant-loop-place : goal.invariant-loop-place
invariant-loop-place l = record {
  within : l.place ≤ length l.runs;
  spread : AreSpread (l.place - 1) l.initial.runs l.runs;
}

abbrev pub decreases-loop-place : goal.decreases-loop-place
decreases-loop-place l = l.place

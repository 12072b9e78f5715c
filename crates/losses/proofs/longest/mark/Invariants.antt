use Rattle.std.proofs.Common.{◌≡◌}
use Rattle.losses.specs.Starts.{IsWindow, AreMarked}
use Rattle.losses.proofs.longest.mark.Given as goal

abbrev pub invariant-loop-start : goal.invariant-loop-start
invariant-loop-start l = record {
  at : l.window.start ≡ l.start;
  window : IsWindow l.members l.need l.window;
  marked : AreMarked l.members l.need l.block l.start l.initial.runs l.runs;
}

use Rattle.std.proofs.Common.{◌≡◌, ◌-◌, length}
use Rattle.losses.specs.Starts.{IsWindow}
use Rattle.losses.proofs.window.Window.widen.Given as goal

abbrev pub invariant-loop-self : goal.invariant-loop-self
invariant-loop-self l = record {
  start : l.self.start ≡ l.fn.self.start;
  window : IsWindow l.members l.need l.self;
}

abbrev pub decreases-loop-self : goal.decreases-loop-self
decreases-loop-self l = length l.members - l.self.end

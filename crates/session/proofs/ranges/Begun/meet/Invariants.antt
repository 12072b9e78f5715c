use Rattle.std.proofs.Common.{◌-◌, length}
use Rattle.session.specs.RangeSteps.{HaveBegun}
use Rattle.session.proofs.ranges.Begun.meet.Given as goal

abbrev pub invariant-loop-begun : goal.invariant-loop-begun
invariant-loop-begun l = HaveBegun l.ranges l.begun.count l.begun.last l.place

abbrev pub decreases-loop-begun : goal.decreases-loop-begun
decreases-loop-begun l = length l.ranges - l.begun.count

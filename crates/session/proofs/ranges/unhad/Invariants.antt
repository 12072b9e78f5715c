use Rattle.std.proofs.Common.{◌≡◌, drop}
use Rattle.session.specs.Ranges.{first_unhad}
use Rattle.session.proofs.ranges.unhad.Given as goal

abbrev pub invariant-loop-range : goal.invariant-loop-range
invariant-loop-range l = first_unhad l.len l.ranges ≡ first_unhad l.len (drop l.range-index l.ranges)

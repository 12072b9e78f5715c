use Rattle.elim.specs.CodePoints.{ArePoints}
use Rattle.elim.proofs.code.points.Given as goal

abbrev pub invariant-loop-j : goal.invariant-loop-j
invariant-loop-j l = ArePoints l.j l.points.items

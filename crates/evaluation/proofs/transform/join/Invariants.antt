use Rattle.evaluation.specs.Transform.{AreTurned, joined}
use Rattle.evaluation.proofs.transform.join.Given as goal

abbrev pub invariant-loop-j : goal.invariant-loop-j
invariant-loop-j l = record { turned : AreTurned l.fn.tile l.tile (joined l.j l.s) }

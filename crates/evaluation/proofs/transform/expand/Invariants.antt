use Rattle.evaluation.specs.Transform.{AreTurned, expanded}
use Rattle.evaluation.proofs.transform.expand.Given as goal

abbrev pub invariant-loop-l : goal.invariant-loop-l
invariant-loop-l l = record { turned : AreTurned l.fn.tile l.tile (expanded l.b l.l) }

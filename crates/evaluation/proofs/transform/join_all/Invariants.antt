use Rattle.evaluation.specs.Transform.{AreTurned, all_joined}
use Rattle.evaluation.proofs.transform.join_all.Given as goal

abbrev pub invariant-loop-a : goal.invariant-loop-a
invariant-loop-a l = record { turned : AreTurned l.fn.tile l.tile (all_joined l.a) }

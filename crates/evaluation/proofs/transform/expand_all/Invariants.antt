use Rattle.evaluation.specs.Transform.{AreTurned, all_expanded}
use Rattle.evaluation.proofs.transform.expand_all.Given as goal

abbrev pub invariant-loop-a : goal.invariant-loop-a
invariant-loop-a l = record { turned : AreTurned l.fn.tile l.tile (all_expanded l.b l.a) }

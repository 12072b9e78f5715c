use Rattle.evaluation.specs.Transform.{AreTurned, groups_expanded}
use Rattle.evaluation.proofs.transform.expand_groups.Given as goal

abbrev pub invariant-loop-g : goal.invariant-loop-g
invariant-loop-g l = record { turned : AreTurned l.fn.tile l.tile (groups_expanded l.g l.q) }

use Rattle.evaluation.specs.Transform.{AreTurned, butterflies}
use Rattle.evaluation.proofs.transform.apply_butterflies.Given as goal

abbrev pub invariant-loop-i : goal.invariant-loop-i
invariant-loop-i l = record { turned : AreTurned l.fn.tile l.tile (butterflies l.i l.c l.p l.q) }

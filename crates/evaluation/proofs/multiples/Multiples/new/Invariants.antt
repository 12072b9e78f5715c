use Rattle.evaluation.specs.Multiples.{AreMultiples}
use Rattle.evaluation.proofs.multiples.Multiples.new.Given as goal

abbrev pub invariant-loop-c : goal.invariant-loop-c
invariant-loop-c l = AreMultiples l.bytes l.c

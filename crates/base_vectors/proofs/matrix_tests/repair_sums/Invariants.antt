use Rattle.elim.specs.Grid.{HasShape}
use Rattle.base_vectors.proofs.matrix_tests.repair_sums.Given as goal

abbrev pub invariant-loop-j : goal.invariant-loop-j
invariant-loop-j l = HasShape 1 10 l.row

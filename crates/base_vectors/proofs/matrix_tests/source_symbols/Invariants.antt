use Rattle.elim.specs.Grid.{HasShape}
use Rattle.base_vectors.proofs.matrix_tests.source_symbols.Given as goal

abbrev pub invariant-loop-i : goal.invariant-loop-i
invariant-loop-i l = HasShape 1 20 l.row

use Rattle.certified_symbols.specs.Differences.{AreSameBelow}
use Rattle.certified_symbols.proofs.differing.first_difference.Given as goal

abbrev pub invariant-loop-place : goal.invariant-loop-place
invariant-loop-place l = AreSameBelow l.place l.row l.bytes

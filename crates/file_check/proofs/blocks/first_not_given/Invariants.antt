use Rattle.file_check.proofs.Given.{AreCompared}
use Rattle.file_check.proofs.blocks.first_not_given.Given as goal

abbrev pub invariant-loop-i : goal.invariant-loop-i
invariant-loop-i l = AreCompared l.symbols l.source l.width l.i l.right l.symbol

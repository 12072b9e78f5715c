use Rattle.std.specs.Prelude.{not, is_some}
use Rattle.block_recovery.specs.Blocks.{bytes_of_esi}
use Rattle.block_recovery.specs.Erasures.{AreThose}
use Rattle.block_recovery.proofs.erasure.missing_esis.Given as goal

abbrev pub invariant-loop-i : goal.invariant-loop-i
invariant-loop-i l = AreThose (λ j. not (is_some (bytes_of_esi l.received j))) 0 l.i l.missing.items

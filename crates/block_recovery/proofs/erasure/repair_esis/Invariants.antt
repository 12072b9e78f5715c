use Rattle.std.specs.Prelude.{is_some}
use Rattle.block_recovery.specs.Blocks.{bytes_of_esi}
use Rattle.block_recovery.specs.Erasures.{AreThose}
use Rattle.block_recovery.proofs.erasure.repair_esis.Given as goal

abbrev pub invariant-loop-j : goal.invariant-loop-j
invariant-loop-j l = AreThose (λ j. is_some (bytes_of_esi l.received j)) l.k l.j l.repair.items

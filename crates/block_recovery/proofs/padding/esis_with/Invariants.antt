use Rattle.std.specs.Prelude.{◌||◌, ◌==◌, is_some}
use Rattle.block_recovery.specs.Blocks.{bytes_of_esi}
use Rattle.block_recovery.specs.Erasures.{AreThose}
use Rattle.block_recovery.proofs.padding.esis_with.Given as goal

abbrev pub invariant-loop-j : goal.invariant-loop-j
invariant-loop-j l = AreThose (λ j. is_some (bytes_of_esi l.arrivals j) || j == l.more) 0 l.j l.esis.items

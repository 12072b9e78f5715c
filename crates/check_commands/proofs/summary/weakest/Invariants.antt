use Rattle.std.proofs.Common.{◌≡◌, ◌<◌, ℕ}
use Rattle.std.specs.Prelude.{◌≤◌}
use Rattle.commands.specs.Summary.{spare_in}
use Rattle.check_commands.proofs.summary.weakest.Given as goal

abbrev pub invariant-loop-block : goal.invariant-loop-block
invariant-loop-block l = record {
  within : l.weakest < l.block;
  known : l.least ≡ spare_in l.blocks l.weakest;
  least : (b : ℕ) → b < l.block → spare_in l.blocks l.weakest ≤ spare_in l.blocks b;
  first : (b : ℕ) → b < l.weakest → spare_in l.blocks l.weakest < spare_in l.blocks b;
}

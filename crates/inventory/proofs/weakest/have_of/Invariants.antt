use Rattle.std.proofs.Common.{◌≡◌, ◌≤◌, length}
use Rattle.std.specs.Prelude.{filter}
use Rattle.std.specs.BTreeSet.{contains}
use Rattle.lists.specs.Below.{below}
use Rattle.inventory.specs.Tally.{pair_cmp}
use Rattle.inventory.proofs.weakest.have_of.Given as goal

abbrev pub invariant-loop-esi : goal.invariant-loop-esi
invariant-loop-esi l = record {
  few : l.have ≤ l.esi;
  counts : l.have ≡ length (filter (λ j. contains pair_cmp l.symbols (l.block, j)) (below l.esi));
}

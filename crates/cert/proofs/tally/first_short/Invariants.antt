use Rattle.std.proofs.Common.{◌<◌, ◌≤◌, ℕ}
use Rattle.losses.specs.Groups.{groups_of, group_at}
use Rattle.cert.specs.Scan.{different_in}
use Rattle.cert.proofs.tally.first_short.Given as goal

abbrev pub invariant-loop-block : goal.invariant-loop-block
invariant-loop-block l = record {
  enough : (b : ℕ) → b < l.block → (group_at (groups_of l.groups) b).need ≤ different_in (groups_of l.groups) b;
}

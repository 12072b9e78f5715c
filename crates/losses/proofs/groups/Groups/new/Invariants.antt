use Rattle.std.proofs.Common.{◌≡◌, ℕ, [], length}
use Rattle.losses.specs.Groups.{entries_at}
use Rattle.losses.proofs.groups.Groups.new.Given as goal

abbrev pub invariant-loop : goal.invariant-loop
invariant-loop l = record {
  size : length l.shares.items ≡ l.counter;
  empty : (a : ℕ) → entries_at l.shares.items a ≡ [];
}

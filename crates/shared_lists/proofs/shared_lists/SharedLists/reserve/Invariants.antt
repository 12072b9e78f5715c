use Rattle.std.proofs.Common.{◌≡◌, ◌≤◌, length, ℕ}
use Rattle.shared_lists.specs.SharedLists.{list_at}
use Rattle.shared_lists.proofs.shared_lists.SharedLists.reserve.Given as goal

-- the lists are the same, so many have an end, and where the list has one already nothing was done
abbrev pub invariant-loop : goal.invariant-loop
invariant-loop g l =
    ((i : ℕ) → list_at l.self i ≡ list_at l.fn.self i)
    × (length l.self.lengths.items ≡ l.counter)
    × (length l.fn.self.lengths.items ≤ l.counter)
    × (l.index ≤ length l.fn.self.lengths.items → l.self ≡ l.fn.self)

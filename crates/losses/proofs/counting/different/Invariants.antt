use Rattle.std.proofs.Common.{◌≡◌, length, get_or, nat_lt}
use Rattle.std.specs.Prelude.{filter}
use Rattle.lists.specs.Below.{below}
use Rattle.losses.proofs.counting.different.Given as goal

abbrev pub invariant-loop-esi : goal.invariant-loop-esi
invariant-loop-esi l = l.different ≡ length (filter (λ j. nat_lt 0 (get_or l.copies j 0)) (below l.esi))

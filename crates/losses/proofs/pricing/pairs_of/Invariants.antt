use Rattle.std.proofs.Common.{◌≡◌, nat_lt, get_or}
use Rattle.std.specs.Prelude.{filter}
use Rattle.losses.specs.Costs.{priced}
use Rattle.lists.specs.Below.{below}
use Rattle.losses.proofs.pricing.pairs_of.Given as goal

abbrev pub invariant-loop-esi : goal.invariant-loop-esi
invariant-loop-esi l = l.pairs.items ≡ priced (λ j. get_or l.copies j 0) (filter (λ j. nat_lt 0 (get_or l.copies j 0)) (below l.esi))

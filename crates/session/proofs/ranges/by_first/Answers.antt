use Rattle.std.proofs.Common.{rules}
use Rattle.std.proofs.lemmas.List.Sorted.{IsNonDecreasingBy-from_sort_by_key}
use Rattle.session.proofs.PlaceRanges.{same_places}
use Rattle.session.proofs.ranges.by_first.Goals as goal

pub returns-clause-same : goal.returns-clause-same
returns-clause-same c =
    same_places c.args.ranges.now c.sort_unstable_by_key.new.self.items
    (rw c.in_ok-sorted.ensures.items at c.sort_unstable_by_key.ensures.permutation)

pub returns-clause-rising : goal.returns-clause-rising
returns-clause-rising c = IsNonDecreasingBy-from_sort_by_key (λ range. range.first) _ c.sort_unstable_by_key.ensures.sorted (λ a r q k. search rules)

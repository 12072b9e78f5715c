use Rattle.std.proofs.Common.{List, take, ap, sym, ◌∙◌, arith, length-take-le}
use Rattle.std.specs.Prelude.{sum_by}
use Rattle.std.proofs.lemmas.List.Sums.{sum_by-take-le}
use Rattle.losses.proofs.Pairs.{last_cost, last_count, length_sorted, sum_sorted}
use Rattle.losses.specs.Costs.{Pair}
use Rattle.losses.proofs.pricing.cheapest.Goals as goal

pub slice_bounds-sum_of-end : goal.slice_bounds-sum_of-end
slice_bounds-sum_of-end c =
    let n = length_sorted c.args.copies.now c.in_ok-pairs.pairs.items c.sort.new.self.items c.in_ok-pairs.ensures c.sort.ensures.permutation in
    rw c.deref.ensures.value (sym (length-take-le c.args.spare c.sort.new.self.items (omega (arith, n))))

pub sum_of-cost-requires : goal.sum_of-cost-requires
sum_of-cost-requires c =
    let n = sum_sorted c.args.copies.now c.in_ok-pairs.pairs.items c.sort.new.self.items c.in_ok-pairs.ensures c.sort.ensures.permutation in
    let t = sum_by-take-le (λ (p : Pair). p.0) c.sort.new.self.items c.args.spare in
    rw c.deref.ensures.value (omega (arith, n, t))

pub index-last-requires : goal.index-last-requires
index-last-requires c =
    let n = length_sorted c.args.copies.now c.in_ok-pairs.pairs.items c.sort.new.self.items c.in_ok-pairs.ensures c.sort.ensures.permutation in
    let o = c.sort.new.self.ok.0 in
    omega (arith, n, o)

pub returns-clause-count : goal.returns-clause-count
returns-clause-count c =
    last_count c.args.copies.now c.in_ok-pairs.pairs.items c.sort.new.self.items c.in_ok-pairs.ensures c.sort.ensures.permutation c.in_ok-sort.ensures.sorted
    c.args.spare c.requires.some c.requires.enough c.index-last.result.now c.index-last.ensures

pub returns-clause-cost : goal.returns-clause-cost
returns-clause-cost c =
    c.sum_of-cost.ensures ∙ ap (λ (xs : List Pair). sum_by (λ (p : Pair). p.0) (take c.args.spare xs)) c.deref.ensures.value
    ∙ last_cost c.args.copies.now c.in_ok-pairs.pairs.items c.sort.new.self.items c.in_ok-pairs.ensures c.sort.ensures.permutation c.in_ok-sort.ensures.sorted
    c.args.spare c.requires.some c.requires.enough c.index-last.result.now c.index-last.ensures

use Rattle.std.proofs.Common.{arith}
use Rattle.losses.proofs.Weights.{cost_fits, filled_all, weighed}
use Rattle.losses.proofs.weighing.weigh.Goals as goal

pub overflow_sub-esi_count : goal.overflow_sub-esi_count
overflow_sub-esi_count c =
    let f = filled_all c.copies_of-copies.result c.args.members.now c.copies_of-copies.ensures in
    let d = c.different-esi_count.ensures in
    omega (arith, f, d)

pub cheapest-requires-clause-enough : goal.cheapest-requires-clause-enough
cheapest-requires-clause-enough c =
    let f = filled_all c.copies_of-copies.result c.args.members.now c.copies_of-copies.ensures in
    let d = c.different-esi_count.ensures in
    omega (arith, f, d)

pub cheapest-requires-clause-fits : goal.cheapest-requires-clause-fits
cheapest-requires-clause-fits c =
    let f = cost_fits c.copies_of-copies.result c.args.members.now c.copies_of-copies.ensures in
    omega (arith, f)

pub returns-clause-cut : goal.returns-clause-cut
returns-clause-cut c =
    let f = filled_all c.copies_of-copies.result c.args.members.now c.copies_of-copies.ensures in
    let d = c.different-esi_count.ensures in
    weighed c.copies_of-copies.result c.args.members.now c.copies_of-copies.ensures c.args.need c.different-esi_count.result c.in_ok-threshold.threshold.cost c.in_ok-threshold.threshold.most_copies c.in_ok-threshold.threshold.last_esi
    (omega (arith, f, d)) d c.in_ok-threshold.ensures.count c.in_ok-threshold.ensures.cost

use Rattle.std.proofs.Common.{arith}
use Rattle.std.proofs.lemmas.List.Sums.{sum_by_more_le}
use Rattle.losses.proofs.pricing.sum_of.Goals as goal

pub overflow_add-sum : goal.overflow_add-sum
overflow_add-sum c =
    let e = sum_by_more_le (λ p. p.0) c.args.pairs.now c.loop-pair.pair-index (0, 0) c.loop-pair-test.true in
    omega (arith, e, c.loop-pair.invariant, c.requires)

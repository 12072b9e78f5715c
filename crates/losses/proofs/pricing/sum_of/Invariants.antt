use Rattle.std.proofs.Common.{◌≡◌, sum_by, take}
use Rattle.losses.proofs.pricing.sum_of.Given as goal

abbrev pub invariant-loop-pair : goal.invariant-loop-pair
invariant-loop-pair l = l.sum ≡ sum_by (λ p. p.0) (take l.pair-index l.pairs)

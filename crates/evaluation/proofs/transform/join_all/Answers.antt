use Rattle.std.proofs.Common.{◌-◌, ap, arith}
use Rattle.evaluation.specs.Transform.{all_joined}
use Rattle.evaluation.proofs.Weights.{all_joined_next}
use Rattle.evaluation.proofs.Places.{pairs_fit}
use Rattle.evaluation.proofs.transform.join_all.Goals as goal

pub loop-a-init : goal.loop-a-init
unfolding all_joined
loop-a-init c = record { turned = λ w count source are. are }

pub join-requires-clause-within : goal.join-requires-clause-within
join-requires-clause-within c =
    let fit = pairs_fit c.loop-a.a (omega arith) in
    rw (c.power_of_two-groups.ensures, c.power_of_two-s.ensures) fit

pub loop-a-preserved : goal.loop-a-preserved
loop-a-preserved c = record {
  turned = λ w count source are.
      all_joined_next w count source _ c.loop-a.a _ _ (ap (λ n. n - 1) c.power_of_two-groups.ensures) c.power_of_two-s.ensures
      (c.join.ensures (λ d. all_joined c.loop-a.a (w d)) count source (c.loop-a.invariant.turned w count source are));
}

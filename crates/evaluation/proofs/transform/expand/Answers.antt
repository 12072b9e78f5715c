use Rattle.std.proofs.Common.{arith}
use Rattle.evaluation.specs.Transform.{expanded}
use Rattle.evaluation.proofs.Weights.{expanded_next}
use Rattle.evaluation.proofs.Places.{groups_fit}
use Rattle.evaluation.proofs.transform.expand.Goals as goal

pub loop-l-init : goal.loop-l-init
unfolding expanded
loop-l-init c = record { turned = λ w count source are. are }

pub expand_groups-requires : goal.expand_groups-requires
expand_groups-requires c =
    let fit = groups_fit c.args.b c.loop-l.l (omega arith) (omega arith) in
    rw (c.power_of_two-groups.ensures, c.power_of_two-q.ensures) fit

pub loop-l-preserved : goal.loop-l-preserved
loop-l-preserved c = record {
  turned = λ w count source are.
      expanded_next w count source _ c.args.b c.loop-l.l _ _ c.power_of_two-groups.ensures c.power_of_two-q.ensures
      (c.expand_groups.ensures (λ d. expanded c.args.b c.loop-l.l (w d)) count source (c.loop-l.invariant.turned w count source are));
}

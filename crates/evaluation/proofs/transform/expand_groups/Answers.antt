use Rattle.evaluation.specs.Transform.{groups_expanded}
use Rattle.evaluation.proofs.Weights.{groups_next}
use Rattle.evaluation.proofs.transform.expand_groups.Goals as goal

pub loop-g-init : goal.loop-g-init
unfolding groups_expanded
loop-g-init c = record { turned = λ w count source are. are }

pub loop-g-preserved : goal.loop-g-preserved
loop-g-preserved c = record {
  turned = λ w count source are.
      groups_next w count source _ c.loop-g.g c.args.q (c.expand_group.ensures (λ d. groups_expanded c.loop-g.g c.args.q (w d)) count source (c.loop-g.invariant.turned w count source are));
}

use Rattle.evaluation.specs.Transform.{all_expanded}
use Rattle.evaluation.proofs.Weights.{all_expanded_next}
use Rattle.evaluation.proofs.transform.expand_all.Goals as goal

pub loop-a-init : goal.loop-a-init
unfolding all_expanded
loop-a-init c = record { turned = λ w count source are. are }

pub loop-a-preserved : goal.loop-a-preserved
loop-a-preserved c = record {
  turned = λ w count source are.
      all_expanded_next w count source _ c.args.b c.loop-a.a (c.expand.ensures (λ d. all_expanded c.args.b c.loop-a.a (w d)) count source (c.loop-a.invariant.turned w count source are));
}

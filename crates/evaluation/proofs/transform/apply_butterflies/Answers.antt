use Rattle.evaluation.specs.Transform.{butterflies}
use Rattle.evaluation.proofs.Weights.{butterflies_next}
use Rattle.evaluation.proofs.transform.apply_butterflies.Goals as goal

pub loop-i-init : goal.loop-i-init
unfolding butterflies
loop-i-init c = record { turned = λ w count source are. are }

pub loop-i-preserved : goal.loop-i-preserved
loop-i-preserved c = record {
  turned = λ w count source are.
      butterflies_next w count source _ c.loop-i.i c.args.c c.args.p c.args.q
      (c.apply_butterfly.ensures (λ d. butterflies c.loop-i.i c.args.c c.args.p c.args.q (w d)) count source (c.loop-i.invariant.turned w count source are));
}

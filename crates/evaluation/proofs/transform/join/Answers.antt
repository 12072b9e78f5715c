use Rattle.std.proofs.Common.{◌+◌, refl}
use Rattle.evaluation.specs.Transform.{joined}
use Rattle.evaluation.proofs.Weights.{joined_next}
use Rattle.evaluation.proofs.Places.{even_elements, even_is, few_of}
use Rattle.evaluation.proofs.transform.join.Goals as goal

pub loop-j-init : goal.loop-j-init
unfolding joined
loop-j-init c = record { turned = λ w count source are. c.add_rows.ensures w count source are }

pub loop-j-preserved : goal.loop-j-preserved
unfolding even_elements
loop-j-preserved c = record {
  turned = λ w count source are.
      joined_next w count source _ c.loop-j.j c.args.s _ _ _ (even_is (c.loop-j.j + 1) (few_of c.args.n c.loop-j.j c.args.s c.requires.some c.requires.within c.loop-j-test.true)) refl refl
      (c.apply_butterflies.ensures (λ d. joined c.loop-j.j c.args.s (w d)) count source (c.loop-j.invariant.turned w count source are));
}

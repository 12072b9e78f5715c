use Rattle.std.proofs.Common.{ℕ, ◌+◌, length-set, ◌∙◌, arith}
use Rattle.evaluation.specs.Transform.{rows_added}
use Rattle.evaluation.proofs.Weights.{added_is, rows_next, written, kept}
use Rattle.evaluation.proofs.transform.add_rows.Goals as goal

pub loop-i-init : goal.loop-i-init
unfolding rows_added
loop-i-init c = record {
  long = search;
  turned = λ w count source are. are;
}

pub loop-i-preserved : goal.loop-i-preserved
loop-i-preserved c = record {
  long = length-set c.loop-i.tile (c.args.p + c.loop-i.i) c.sum_lanes.result ∙ c.loop-i.invariant.long;
  turned = λ w count source are.
      let p : ℕ = c.args.p + c.loop-i.i in
      let q : ℕ = c.args.q + c.loop-i.i in
      let tile = c.loop-i.tile in
      let v = c.sum_lanes.result in
      let long = c.loop-i.invariant.long in
      rows_next w count source _ c.loop-i.i c.args.p c.args.q
      (added_is (λ d. rows_added c.loop-i.i c.args.p c.args.q (w d)) count source tile _ p q (c.loop-i.invariant.turned w count source are) (omega arith) (omega arith)
      (λ t lt. written tile p t v (omega (arith, long)) ∙ c.sum_lanes.ensures t lt)
      (λ x t ne. kept tile p x t v ne));
}

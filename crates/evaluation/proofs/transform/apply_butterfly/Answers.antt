use Rattle.std.proofs.Common.{◌≡◌, length, get_or, set, length-set, ap, sym, ◌∙◌, arith}
use Rattle.gf256.specs.Arithmetic.{sum_of}
use Rattle.gf256.specs.Slices.{lane}
use Rattle.evaluation.specs.Transform.{AreWeighted, scaled_added, butterfly}
use Rattle.evaluation.proofs.Weights.{scaled_is, added_is, lane_byte, written, kept}
use Rattle.evaluation.proofs.transform.apply_butterfly.Goals as goal

pub returns : goal.returns
unfolding butterfly
returns c = λ w count source are.
    let tile = c.args.tile.now in
    let p = c.args.p in
    let q = c.args.q in
    let long : length c.args.tile.now ≡ 256 = search in
    let first : AreWeighted (λ d. scaled_added c.args.c p q (w d)) count source (set tile p c.sum_lanes-sum.result) =
    scaled_is w count source tile (set tile p c.sum_lanes-sum.result) c.args.c p q are (omega arith) c.requires.to c.requires.from
    (λ t lt.
    written tile p t c.sum_lanes-sum.result (omega (arith, long))
    ∙ c.sum_lanes-sum.ensures t lt
    ∙ ap (sum_of (lane tile p t)) (c.times-product.ensures t (lane tile q t) lt (lane_byte w count source tile q t are c.requires.from lt) (c.low_halves.ensures.value t lt) (c.high_halves.ensures.value t lt)))
    (λ x t ne. kept tile p x t c.sum_lanes-sum.result ne) in
    let middle = set tile p c.sum_lanes-sum.result in
    added_is (λ d. scaled_added c.args.c p q (w d)) count source (set tile p c.sum_lanes-sum.result) _ q p first c.requires.from c.requires.to
    (λ t lt.
    written middle q t c.sum_lanes.result (omega (arith, long, length-set tile p c.sum_lanes-sum.result))
    ∙ c.sum_lanes.ensures t lt
    ∙ ap (λ v. sum_of v (get_or c.sum_lanes-sum.result t 0)) (sym (kept tile p q t c.sum_lanes-sum.result (λ e. c.requires.apart (sym e))))
    ∙ sym (ap (sum_of (lane middle q t)) (written tile p t c.sum_lanes-sum.result (omega (arith, long)))))
    (λ x t ne. kept middle q x t c.sum_lanes.result ne)

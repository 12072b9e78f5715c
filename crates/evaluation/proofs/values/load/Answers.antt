use Rattle.std.proofs.Common.{◌≡◌, ◌+◌, ◌*◌, length-set, get_or, ap, sym, ◌∙◌, inl, inr, arith}
use Rattle.std.proofs.lemmas.Bool.{cases_eq, cases_lt}
use Rattle.gf256.proofs.SliceLanes.{below_past, below_within}
use Rattle.evaluation.specs.Sums.{coefficient}
use Rattle.evaluation.proofs.Weights.{written, kept}
use Rattle.evaluation.proofs.values.load.Goals as goal

pub loop-p-preserved : goal.loop-p-preserved
loop-p-preserved c = record {
  long = length-set c.loop-p.tile c.loop-p.p c.lanes_from.result ∙ c.loop-p.invariant.long;
  loaded = λ p t lp lt. elim (cases_eq p c.loop-p.p) [
    | inl e ↦
        let long = c.loop-p.invariant.long in
        let place : c.loop-p.p * c.args.coefficients.now.width + c.args.at + t ≡ c.loop-p.p * c.args.coefficients.now.width + (c.args.at + t) = omega arith in
        rw e (written c.loop-p.tile c.loop-p.p t c.lanes_from.result (omega (arith, long)) ∙ c.lanes_from.ensures t lt ∙ ap (λ n. get_or c.args.coefficients.now.bytes.now n 0) place)
    | inr ne ↦ kept c.loop-p.tile c.loop-p.p p t c.lanes_from.result ne ∙ c.loop-p.invariant.loaded p t (omega (arith, lp, ne)) lt
  ];
  zeros = λ p t le lp lt. kept c.loop-p.tile c.loop-p.p p t c.lanes_from.result (λ e. omega (arith, e, le)) ∙ c.loop-p.invariant.zeros p t le lp lt;
}

pub returns : goal.returns
returns c = λ p t lp lt. elim (cases_lt p c.args.coefficients.now.k) [
  | inl l ↦ c.loop-p.invariant.loaded p t (omega (arith, l)) lt ∙ sym (below_within c.args.coefficients.now.k p (coefficient c.args.coefficients.now.bytes.now c.args.coefficients.now.width (c.args.at + t) p) l)
  | inr g ↦ c.loop-p.invariant.zeros p t g lp lt ∙ sym (below_past c.args.coefficients.now.k p (coefficient c.args.coefficients.now.bytes.now c.args.coefficients.now.width (c.args.at + t) p) g)
]

use Rattle.std.proofs.Common.{◌≡◌, ◌<◌, ◌+◌, ◌-◌, ◌*◌, get_or, sym, ap, ◌∙◌, inl, inr, arith, rules}
use Rattle.std.proofs.lemmas.Bool.{cases_lt}
use Rattle.evaluation.specs.Sums.{sum_at}
use Rattle.evaluation.proofs.Elements.{valued}
use Rattle.evaluation.proofs.values.write_by_transform.Goals as goal

pub loop-t-preserved : goal.loop-t-preserved
loop-t-preserved c = record {
  done = λ j y lj ly lt. elim (cases_lt y (64 * c.loop-t.t)) [
    | inl l ↦ c.store.ensures.before j y l ∙ c.loop-t.invariant.done j y lj ly l
    | inr g ↦
        let e : 64 * c.loop-t.t + (y - 64 * c.loop-t.t) ≡ y = omega arith in
        let t = y - 64 * c.loop-t.t in
        let lane : y - 64 * c.loop-t.t < 64 = omega arith in
        ap (λ p. get_or c.store.new.symbols (j * c.args.coefficients.now.width + p) 0) (sym e)
        ∙ c.store.ensures.within j t lj (omega arith)
        ∙ valued c.args.coefficients.now.bytes.now c.args.coefficients.now.fit c.args.coefficients.now.k c.args.coefficients.now.width (64 * c.loop-t.t) c.exponent.result _ _
        c.exponent.ensures.least c.exponent.ensures.most c.exponent.ensures.enough c.load.ensures c.transform.ensures (c.args.points.now.first + j * c.args.points.now.step) t lane
        ∙ ap (λ p. sum_at c.args.coefficients.now.bytes.now c.args.coefficients.now.k c.args.coefficients.now.width p (c.args.points.now.first + j * c.args.points.now.step)) e
  ];
}

pub returns : goal.returns
returns c = search rules

use Rattle.std.proofs.Common.{◌≡◌, ◌<◌, ◌+◌, ◌-◌, ◌*◌, ◌∙◌, get_or, ap, sym, arith}
use Rattle.gf256.specs.Arithmetic.{product, alpha_to}
use Rattle.gf256.proofs.SliceSums.{sum_same}
use Rattle.evaluation.specs.Sums.{coefficient}
use Rattle.evaluation.proofs.Rounds.{picked, turned_back}
use Rattle.evaluation.proofs.interpolation.coefficients.Goals as goal

pub returns-clause-coefficients : goal.returns-clause-coefficients
returns-clause-coefficients c = λ y p ly form values. record {
  count = form.count;
  bytes = λ i li.
      let k = c.args.k in
      let few = c.requires.few in
      let lj : c.args.k - 1 - i < c.args.k = omega (arith, li) in
      let back : c.args.k - 1 - (c.args.k - 1 - i) ≡ i = omega (arith, li) in
      let f = coefficient c.args.values.now c.args.width y in
      sym (c.write_by_transform.ensures i y li ly
      ∙ sum_same 255 (λ m. product (alpha_to (m * (0 + i * 254))) (coefficient c.args.values.now c.args.width y m))
      (λ m. product (alpha_to (m * (256 - c.args.k + (c.args.k - 1 - i)))) (coefficient c.args.values.now c.args.width y m))
      (λ m lm. ap (λ a. product a (coefficient c.args.values.now c.args.width y m)) (turned_back m i c.args.k li few))
      ∙ picked p f k (c.args.k - 1 - i) form few lj values
      ∙ ap (λ n. get_or p n 0) back);
}

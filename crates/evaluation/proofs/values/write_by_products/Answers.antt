use Rattle.std.proofs.Common.{◌+◌, ◌*◌}
use Rattle.evaluation.proofs.ValueSums.{by_products}
use Rattle.evaluation.proofs.values.write_by_products.Goals as goal

pub returns : goal.returns
returns c = λ j y lj ly.
    by_products c.write_powers.new.matrix c.args.coefficients.now.bytes.now c.args.coefficients.now.k c.args.coefficients.now.width y c.args.points.now.first c.args.points.now.step j _ _
    (c.add_products.ensures j y lj ly) (c.clear.ensures.zeros (j * c.args.coefficients.now.width + y)) (λ i li. c.write_powers.ensures j i lj li)

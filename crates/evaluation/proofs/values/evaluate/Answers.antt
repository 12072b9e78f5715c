use Rattle.std.proofs.Common.{◌≡◌, ◌+◌, ◌*◌, ◌∙◌, ℕ, List, ap, arith}
use Rattle.lists.specs.Bytes.{AreBytes}
use Rattle.gf256.specs.Arithmetic.{alpha_to}
use Rattle.poly.specs.Polynomial.{value}
use Rattle.evaluation.specs.Columns.{AreValues}
use Rattle.evaluation.specs.Sums.{AreSums}
use Rattle.evaluation.proofs.ValueSums.{value_from_sum}
use Rattle.evaluation.proofs.values.evaluate.Goals as goal

-- the sums are the values
are_values : (rows : List ℕ) (k width first n : ℕ) (symbols : List ℕ) → AreBytes rows → AreSums rows k width first 1 n symbols → AreValues rows k width first n symbols
are_values rows k width first n symbols bytes sums = λ j y p lj ly column.
    let place : first + j * 1 ≡ first + j = omega arith in
    sums j y lj ly
    ∙ value_from_sum rows p k width y (first + j * 1) bytes column
    ∙ ap (λ e. value p (alpha_to e)) place

pub returns-then-products-le-MOST_PRODUCTS : goal.returns-then-products-le-MOST_PRODUCTS
returns-then-products-le-MOST_PRODUCTS c =
    are_values c.args.coefficients.now c.args.k c.args.width c.args.first c.args.n c.write_by_products.new.symbols (λ i. (c.type_inv.coefficients i).fits) c.write_by_products.ensures

pub returns-else-products-le-MOST_PRODUCTS : goal.returns-else-products-le-MOST_PRODUCTS
returns-else-products-le-MOST_PRODUCTS c =
    are_values c.args.coefficients.now c.args.k c.args.width c.args.first c.args.n c.write_by_transform.new.symbols (λ i. (c.type_inv.coefficients i).fits) c.write_by_transform.ensures

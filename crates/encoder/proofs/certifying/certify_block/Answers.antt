use Rattle.std.proofs.Common.{◌<◌, ◌∙◌, ℕ, arith, sym}
use Rattle.partition.specs.Fti.{source_count, source_byte}
use Rattle.block_code.proofs.ColumnPlaces.{column_product}
use Rattle.block_code.specs.Columns.{AreColumns}
use Rattle.certificate.proofs.GreatestBlock.{most_source}
use Rattle.encoder.proofs.Places.{gives_from_places}
use Rattle.encoder.proofs.certifying.certify_block.Goals as goal

pub certify_by_values-requires-clause-work : goal.certify_by_values-requires-clause-work
certify_by_values-requires-clause-work c =
    let most = most_source c.args.fti.now c.is_valid.ensures c.args.b in
    c.requires.work (omega (arith, most, c.k.ensures.value, c.if-k-lt-LEAST_BY_VALUES.false))

pub returns-then-k-lt-LEAST_BY_VALUES-clause-gives : goal.returns-then-k-lt-LEAST_BY_VALUES-clause-gives
returns-then-k-lt-LEAST_BY_VALUES-clause-gives c = λ object bytes sources coefficients are.
    let f = c.args.fti.now in
    let k : ℕ = source_count f c.args.b in
    let g = c.args.interpolator.now.matrix in
    let made = c.requires.interpolator.at_once (omega (arith, c.k.ensures.value, c.if-k-lt-LEAST_BY_VALUES.true)) in
    let laid_out : AreColumns c.args.interpolator.now.matrix c.deref.result.now = rw c.deref.ensures.value c.args.interpolator.now.laid_out in
    let sums = rw c.k-then-k-lt-LEAST_BY_VALUES.ensures.value at (c.combine.ensures.sums object sources) in
    gives_from_places f object coefficients c.args.b g bytes made
    (λ y n ly ln.
    let column : n < c.args.interpolator.now.matrix.cols = rw made.cols ln in
    sym (are n y ln ly) ∙ sums n y ln ly
    ∙ column_product g c.deref.result.now (λ i. source_byte f object c.args.b i y) k n laid_out.small laid_out made.rows column (λ i. bytes _))

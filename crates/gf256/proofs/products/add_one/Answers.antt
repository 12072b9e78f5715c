use Rattle.std.proofs.Common.{◌≡◌, get_or, length, ap, arith}
use Rattle.std.proofs.lemmas.Grind.{common_steps}
use Rattle.gf256.specs.Arithmetic.{product}
use Rattle.gf256.proofs.SliceSums.{listed_next}
use Rattle.gf256.proofs.RowFronts.{plus_front}
use Rattle.gf256.specs.Slices.{source_byte}
use Rattle.gf256.proofs.products.add_one.Goals as goal

pub loop-i-preserved : goal.loop-i-preserved
loop-i-preserved c = record {
  sums = λ j lj.
      let width : length c.loop-i.output ≡ length c.args.output.now = c.loop-i.auto.output in
      listed_next (λ i. product (get_or c.args.coefficients.now i 0) (source_byte c.args.sources.now i j)) c.loop-i.i _ _ _ _
      (plus_front (get_or c.args.coefficients.now c.loop-i.i 0) c.loop-i.output c.row-part.result.now c.add_scaled.new.dst (omega arith) c.add_scaled.ensures j)
      (c.loop-i.invariant.sums j lj)
      (ap (product (get_or c.args.coefficients.now c.loop-i.i 0)) (c.row-part.ensures.bytes j (let w = c.requires.width in omega arith)));
}

pub loop-i-init : goal.loop-i-init
loop-i-init c = grind (arith, common_steps) steps 2000000

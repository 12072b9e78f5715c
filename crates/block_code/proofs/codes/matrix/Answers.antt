use Rattle.block_code.proofs.Sizes.{encoder_from, both}
use Rattle.block_code.proofs.codes.matrix.Goals as goal

pub returns-in-Generator : goal.returns-in-Generator
returns-in-Generator c = rw c.in-Generator.is (both _ _ _ c.generator.result (encoder_from c.args.k c.args.n) c.generator.ensures.generator c.generator.ensures.encodes)

pub returns-in-Interpolator : goal.returns-in-Interpolator
returns-in-Interpolator c = rw c.in-Interpolator.is c.interpolation.ensures

use Rattle.std.proofs.Common.{arith}
use Rattle.block_code.proofs.Sizes.{few_from, many_from, both}
use Rattle.block_code.proofs.codes.interpolation.Goals as goal

pub returns-then-k-lt-LEAST_BY_VALUES : goal.returns-then-k-lt-LEAST_BY_VALUES
returns-then-k-lt-LEAST_BY_VALUES c = both _ _ _ c.interpolator.result (λ g. few_from c.args.k g (omega arith)) c.interpolator.ensures.shape c.interpolator.ensures.interpolates

pub returns-else-k-lt-LEAST_BY_VALUES : goal.returns-else-k-lt-LEAST_BY_VALUES
returns-else-k-lt-LEAST_BY_VALUES c = both _ _ _ c.generator.result (λ g. many_from c.args.k g (omega arith)) c.generator.ensures.generator c.generator.ensures.encodes

use Rattle.std.proofs.Common.{get_or, ◌∙◌, arith, bit_and}
use Rattle.std.proofs.lemmas.Nat.{and_mask}
use Rattle.gf256.proofs.SliceLanes.{splat_lane}
use Rattle.evaluation.proofs.lanes.low_halves.Goals as goal

pub returns-clause-value : goal.returns-clause-value
returns-clause-value c = λ t lt. splat_lane bit_and 64 c.args.v 15 t c.fits-v.0 lt ∙ and_mask (get_or c.args.v t 0) 4

pub returns-clause-small : goal.returns-clause-small
returns-clause-small c = λ t lt. omega (arith, splat_lane bit_and 64 c.args.v 15 t c.fits-v.0 lt ∙ and_mask (get_or c.args.v t 0) 4)

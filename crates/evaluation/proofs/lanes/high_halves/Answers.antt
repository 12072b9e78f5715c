use Rattle.std.proofs.Common.{◌/◌, ◌^◌, arith}
use Rattle.gf256.proofs.SliceLanes.{splat_lane, lane_fits}
use Rattle.evaluation.proofs.lanes.high_halves.Goals as goal

pub returns-clause-value : goal.returns-clause-value
returns-clause-value c = λ t lt. splat_lane (λ a b. a / 2 ^ b) 64 c.args.v 4 t c.fits-v.0 lt

pub returns-clause-small : goal.returns-clause-small
returns-clause-small c = λ t lt. omega (arith, splat_lane (λ a b. a / 2 ^ b) 64 c.args.v 4 t c.fits-v.0 lt, lane_fits c.args.v t c.fits-v.1)

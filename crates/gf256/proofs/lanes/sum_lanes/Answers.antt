use Rattle.std.proofs.Common.{bit_xor}
use Rattle.gf256.proofs.SliceLanes.{zip_lane}
use Rattle.gf256.proofs.lanes.sum_lanes.Goals as goal

pub returns : goal.returns
returns c = λ t lt. zip_lane bit_xor 64 c.args.a c.args.b t c.fits-a.0 c.fits-b.0 lt

use Rattle.gf256.proofs.SliceLanes.{doubled_lane}
use Rattle.gf256.proofs.lanes.double_lanes.Goals as goal

pub returns : goal.returns
returns c = λ t lt. doubled_lane c.args.v c.fits-v t lt

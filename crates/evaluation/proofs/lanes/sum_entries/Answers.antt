use Rattle.std.proofs.Common.{bit_xor}
use Rattle.gf256.proofs.SliceLanes.{zip_lane}
use Rattle.evaluation.proofs.lanes.sum_entries.Goals as goal

pub returns : goal.returns
returns c = λ t lt. zip_lane bit_xor 32 c.args.a c.args.b t c.fits-a.0 c.fits-b.0 lt

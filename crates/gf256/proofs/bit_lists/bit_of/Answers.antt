use Rattle.gf256.proofs.SliceLanes.{bit_lane}
use Rattle.gf256.proofs.bit_lists.bit_of.Goals as goal

pub returns : goal.returns
returns c = λ i lt. bit_lane c.args.c c.args.down c.fits-c i lt

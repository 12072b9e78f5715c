use Rattle.gf256.proofs.SliceLanes.{with_bit_lane}
use Rattle.gf256.proofs.bit_lists.with_bit.Goals as goal

pub returns : goal.returns
returns c = λ i lt. with_bit_lane c.args.high c.args.low c.fits-high c.fits-low i lt

use Rattle.gf256.proofs.SliceLanes.{eightfold_lane}
use Rattle.gf256.proofs.bit_lists.eightfold.Goals as goal

pub returns : goal.returns
returns c = λ i lt. eightfold_lane c.args.v c.fits-v i lt (c.requires i lt)

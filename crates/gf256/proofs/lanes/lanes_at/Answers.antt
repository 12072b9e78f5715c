use Rattle.std.proofs.lemmas.Simd.{get_or-chunk}
use Rattle.gf256.proofs.lanes.lanes_at.Goals as goal

pub returns : goal.returns
returns c = λ t lt. get_or-chunk c.args.at 64 c.args.bytes.now t 0 lt

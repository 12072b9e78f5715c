use Rattle.std.proofs.lemmas.Simd.{get_or-chunk}
use Rattle.evaluation.proofs.lanes.lanes_from.Goals as goal

pub returns-then-left-ge-LANES : goal.returns-then-left-ge-LANES
returns-then-left-ge-LANES c = λ t lt. get_or-chunk c.args.at 64 c.args.bytes.now t 0 lt

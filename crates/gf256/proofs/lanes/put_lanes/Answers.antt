use Rattle.std.proofs.Common.{arith}
use Rattle.std.proofs.lemmas.Simd.{get_or-put_chunk_below, get_or-put_chunk_at}
use Rattle.gf256.proofs.lanes.put_lanes.Goals as goal

pub returns-clause-within : goal.returns-clause-within
returns-clause-within c = λ t lt. get_or-put_chunk_at c.args.at c.args.bytes.now c.args.v t 0 (let long = c.fits-v.0 in omega arith) (let long = c.fits-v.0 in omega arith)

pub returns-clause-below : goal.returns-clause-below
returns-clause-below c = λ p lt. get_or-put_chunk_below c.args.at c.args.bytes.now c.args.v p 0 lt

use Rattle.std.proofs.Common.{arith}
use Rattle.std.proofs.lemmas.Simd.{get_or-put_chunk_below, get_or-put_chunk_at, get_or-put_chunk_above}
use Rattle.evaluation.proofs.lanes.put_lanes.Goals as goal

pub returns-then-used-eq-LANES-clause-within : goal.returns-then-used-eq-LANES-clause-within
returns-then-used-eq-LANES-clause-within c = λ t lt. get_or-put_chunk_at c.args.at c.args.bytes.now c.args.v t 0 (omega (arith, c.fits-v.0)) (omega (arith, c.fits-v.0))

pub returns-then-used-eq-LANES-clause-below : goal.returns-then-used-eq-LANES-clause-below
returns-then-used-eq-LANES-clause-below c = λ p lt. get_or-put_chunk_below c.args.at c.args.bytes.now _ p 0 lt

pub returns-then-used-eq-LANES-clause-above : goal.returns-then-used-eq-LANES-clause-above
returns-then-used-eq-LANES-clause-above c = λ p le. get_or-put_chunk_above c.args.at c.args.bytes.now c.args.v p 0 (omega (arith, c.fits-v.0))

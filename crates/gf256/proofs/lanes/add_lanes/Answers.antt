use Rattle.std.proofs.Common.{◌∙◌, ap, arith, bit_xor, get_or, List, ℕ, ◌≡◌, ◌<◌, length}
use Rattle.std.proofs.lemmas.Simd.{get_or-chunk, length-chunk, get_or-put_chunk_below, get_or-put_chunk_at, get_or-put_chunk_above}
use lib.Lanes.{zip2, chunk}
use Rattle.gf256.proofs.SliceLanes.{zip_lane, zip_long}
use Rattle.gf256.proofs.lanes.add_lanes.Goals as goal

pub returns-then-used-eq-LANES-clause-within : goal.returns-then-used-eq-LANES-clause-within
returns-then-used-eq-LANES-clause-within c = λ t lt.
    let old : List ℕ = chunk c.args.at 64 c.args.bytes.now in
    let long : length (chunk c.args.at 64 c.args.bytes.now) ≡ 64 = length-chunk c.args.at 64 c.args.bytes.now (omega arith) in
    let within : t < 64 = omega arith in
    let sums : List ℕ = zip2 bit_xor (chunk c.args.at 64 c.args.bytes.now) c.args.v in
    let sums_long : length (zip2 bit_xor (chunk c.args.at 64 c.args.bytes.now) c.args.v) ≡ 64 = zip_long bit_xor 64 old c.args.v long c.fits-v.0 in
    get_or-put_chunk_at c.args.at c.args.bytes.now sums t 0 (omega arith) (omega arith)
    ∙ zip_lane bit_xor 64 old c.args.v t long c.fits-v.0 within
    ∙ ap (λ k. bit_xor k (get_or c.args.v t 0)) (get_or-chunk c.args.at 64 c.args.bytes.now t 0 within)

pub returns-then-used-eq-LANES-clause-below : goal.returns-then-used-eq-LANES-clause-below
returns-then-used-eq-LANES-clause-below c = λ p lt. get_or-put_chunk_below c.args.at c.args.bytes.now _ p 0 lt

pub returns-then-used-eq-LANES-clause-above : goal.returns-then-used-eq-LANES-clause-above
returns-then-used-eq-LANES-clause-above c = λ p le.
    let long : length (chunk c.args.at 64 c.args.bytes.now) ≡ 64 = length-chunk c.args.at 64 c.args.bytes.now (omega arith) in
    let sums : List ℕ = zip2 bit_xor (chunk c.args.at 64 c.args.bytes.now) c.args.v in
    let sums_long : length (zip2 bit_xor (chunk c.args.at 64 c.args.bytes.now) c.args.v) ≡ 64 = zip_long bit_xor 64 (chunk c.args.at 64 c.args.bytes.now) c.args.v long c.fits-v.0 in
    get_or-put_chunk_above c.args.at c.args.bytes.now sums p 0 (omega arith)

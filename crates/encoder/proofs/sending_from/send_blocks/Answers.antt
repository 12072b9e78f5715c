use Rattle.std.proofs.Common.{ℕ, ◌++◌, append_assoc, ◌≡◌, ◌<◌, ◌≤◌, ◌*◌, ◌+◌, ◌∙◌, length, refl, ap, sym, arith, length-take-le}
use Rattle.std.specs.Prelude.{flat_map}
use Rattle.lists.specs.Below.{below}
use Rattle.std.proofs.Math.Nat.{mul-le-mul_right}
use Rattle.partition.specs.Fti.{block_count, encoding_count}
use Rattle.certificate.proofs.Results.{passed_on}
use Rattle.certificate.proofs.Flat.{on_err}
use Rattle.certificate.proofs.GreatestBlock.{rows_of_block}
use Rattle.block_code.proofs.RowAdding.{products}
use Rattle.encoder.specs.declared.sending_from.SendFromFault.TheVariants.{Object}
use Rattle.partition.specs.Fti.{block_bytes}
use Rattle.encoder.specs.Sending.{pairs_of_block}
use Rattle.encoder.proofs.Sent.{nothing_sent, behind_sends, behind_some, behind_room, behind_short, sent_some, flat_next, flat_parts, length_next}
use Rattle.encoder.proofs.InPasses.{first_most, whole_run, length-run_of}
use Rattle.encoder.proofs.ObjectBlocks.{none_read, next_read, some_read, so_far, block_fault}
use Rattle.encoder.proofs.sending_from.send_blocks.Goals as goal

pub loop-block-init : goal.loop-block-init
unfolding below
loop-block-init g c =
    let t = c.args.t.now in
    record { read = none_read t.fti _ _ (λ object. nothing_sent object t.fti t.tsi t.toi t.every _); place = refl; few = omega arith; room = omega arith; stays = refl }

pub slice_bounds-bytes-end : goal.slice_bounds-bytes-end
slice_bounds-bytes-end g c =
    let t = c.args.t.now in
    let f = t.fti in
    let b = c.loop-block.block in
    let valid = c.symbol_length.ensures.valid in
    omega (arith, c.block_bytes.ensures.value, rows_of_block f valid b, c.requires.sources, c.loop-block.auto.sources)

pub slice_bounds-bytes-end-in-loop-block : goal.slice_bounds-bytes-end-in-loop-block
slice_bounds-bytes-end-in-loop-block g c =
    let t = c.args.t.now in
    let f = t.fti in
    let b = c.loop-block.block in
    let valid = c.symbol_length.ensures.valid in
    let room : c.block_bytes.result ≤ length c.loop-block.sources = omega (arith, c.block_bytes.ensures.value, rows_of_block f valid b, c.requires.sources, c.loop-block.auto.sources) in
    omega (arith, length-take-le c.block_bytes.result c.loop-block.sources room)

pub returns-in_err-read_block-clause-err : goal.returns-in_err-read_block-clause-err
returns-in_err-read_block-clause-err g c =
    let t = c.args.t.now in
    let f = t.fti in
    let b = c.loop-block.block in
    let valid = c.symbol_length.ensures.valid in
    let inside : c.loop-block.block < block_count c.args.t.now.fti = omega (arith, c.loop-block-test.true, c.block_count-block-end.ensures.value) in
    let sent = pairs_of_block f in
    let parts = flat_parts sent b (block_count f) inside in
    on_err _ (so_far f valid b _ _ _ c.loop-block.invariant.read _
    (λ object done. sent_some object f t.tsi t.toi t.every 0 (flat_map sent (below b)) (sent b ++ parts.0) _ _ _ (parts.1 ∙ append_assoc (flat_map sent (below b)) (sent b) parts.0) done))

pub returns-in_err-read_block-clause-fault : goal.returns-in_err-read_block-clause-fault
returns-in_err-read_block-clause-fault g c =
    let t = c.args.t.now in
    let f = t.fti in
    let b = c.loop-block.block in
    let valid = c.symbol_length.ensures.valid in
    let inside : c.loop-block.block < block_count c.args.t.now.fti = omega (arith, c.loop-block-test.true, c.block_count-block-end.ensures.value) in
    let room : c.block_bytes.result ≤ length c.loop-block.sources = omega (arith, c.block_bytes.ensures.value, rows_of_block f valid b, c.requires.sources, c.loop-block.auto.sources) in
    let e = c.in_err-read_block.field-0.0 in
    let long = length-take-le c.block_bytes.result c.loop-block.sources room ∙ c.block_bytes.ensures.value in
    passed_on c.from_residual.result (Object e) _ c.from_residual.ensures.1
    (block_fault f valid b _ _ _ c.loop-block.invariant.read e _ _ _ _ inside long c.in_err-read_block.ensures.short c.in_err-read_block.ensures.io c.loop-block.invariant.stays)

pub slice_bounds-room-end : goal.slice_bounds-room-end
slice_bounds-room-end g c =
    let t = c.args.t.now in
    let f = t.fti in
    let b = c.loop-block.block in
    let valid = c.symbol_length.ensures.valid in
    let size = c.from-size.ensures ∙ c.symbol_length.ensures.value in
    let whole = products c.n-count.result c.from-size.result (encoding_count f b) f.symbol_length c.n-count.ensures.value size in
    let most : encoding_count f b * f.symbol_length ≤ encoding_count f 0 * f.symbol_length = mul-le-mul_right f.symbol_length (first_most f valid b) in
    omega (arith, whole, most, c.requires.room, c.loop-block.auto.symbols)

pub slice_bounds-room-end-in-loop-block : goal.slice_bounds-room-end-in-loop-block
slice_bounds-room-end-in-loop-block g c =
    let t = c.args.t.now in
    let f = t.fti in
    let b = c.loop-block.block in
    let valid = c.symbol_length.ensures.valid in
    let size = c.from-size.ensures ∙ c.symbol_length.ensures.value in
    let whole = products c.n-count.result c.from-size.result (encoding_count f b) f.symbol_length c.n-count.ensures.value size in
    let most : encoding_count f b * f.symbol_length ≤ encoding_count f 0 * f.symbol_length = mul-le-mul_right f.symbol_length (first_most f valid b) in
    let fits : c.n-count.result * c.from-size.result ≤ length c.loop-block.symbols = omega (arith, whole, most, c.requires.room, c.loop-block.auto.symbols) in
    omega (arith, length-take-le (c.n-count.result * c.from-size.result) c.loop-block.symbols fits)

pub send_symbols-requires-clause-symbols : goal.send_symbols-requires-clause-symbols
send_symbols-requires-clause-symbols g c =
    let t = c.args.t.now in
    let f = t.fti in
    let b = c.loop-block.block in
    let valid = c.symbol_length.ensures.valid in
    let size = c.from-size.ensures ∙ c.symbol_length.ensures.value in
    let whole = products c.n-count.result c.from-size.result (encoding_count f b) f.symbol_length c.n-count.ensures.value size in
    let most : encoding_count f b * f.symbol_length ≤ encoding_count f 0 * f.symbol_length = mul-le-mul_right f.symbol_length (first_most f valid b) in
    let fits : c.n-count.result * c.from-size.result ≤ length c.loop-block.symbols = omega (arith, whole, most, c.requires.room, c.loop-block.auto.symbols) in
    length-take-le (c.n-count.result * c.from-size.result) c.loop-block.symbols fits ∙ ap (λ (v : ℕ). c.n-count.result * v) size

pub returns-in_default-clause-err : goal.returns-in_default-clause-err
returns-in_default-clause-err g c =
    let t = c.args.t.now in
    let f = t.fti in
    let b = c.loop-block.block in
    let valid = c.symbol_length.ensures.valid in
    let inside : c.loop-block.block < block_count c.args.t.now.fti = omega (arith, c.loop-block-test.true, c.block_count-block-end.ensures.value) in
    let room : c.block_bytes.result ≤ length c.loop-block.sources = omega (arith, c.block_bytes.ensures.value, rows_of_block f valid b, c.requires.sources, c.loop-block.auto.sources) in
    let long : length c.read_block.new.bytes ≡ block_bytes f b = c.in_ok-read_block.ensures.len ∙ length-take-le c.block_bytes.result c.loop-block.sources room ∙ c.block_bytes.ensures.value in
    let sent = pairs_of_block f in
    let at : c.loop-block.place ≡ 0 + length (flat_map (pairs_of_block f) (below b)) = omega (arith, c.loop-block.invariant.place) in
    let run = whole_run f b c.n-count.result c.n-count.ensures.value in
    let parts = flat_parts sent b (block_count f) inside in
    some_read f valid b _ _ _ c.loop-block.invariant.read inside _ c.read_block.new.bytes long c.in_ok-read_block.ensures.bytes c.in_ok-read_block.ensures.read _
    (λ object bytes are done. behind_some object f t.tsi t.toi t.every 0 c.loop-block.place (flat_map sent (below b)) (sent b) at _ _ _ _ parts.0 parts.1 done
    (rw run at (c.in_default.ensures.some object bytes are)))

pub returns-in_default-clause-full : goal.returns-in_default-clause-full
returns-in_default-clause-full g c = λ e.
    let t = c.args.t.now in
    let f = t.fti in
    let b = c.loop-block.block in
    let valid = c.symbol_length.ensures.valid in
    let inside : c.loop-block.block < block_count c.args.t.now.fti = omega (arith, c.loop-block-test.true, c.block_count-block-end.ensures.value) in
    let sent = pairs_of_block f in
    let at : c.loop-block.place ≡ 0 + length (flat_map (pairs_of_block f) (below b)) = omega (arith, c.loop-block.invariant.place) in
    let run = whole_run f b c.n-count.result c.n-count.ensures.value in
    let parts = flat_parts sent b (block_count f) inside in
    behind_short f t.every 0 c.loop-block.place (flat_map sent (below b)) (sent b) at _ _ _ parts.0 parts.1 c.loop-block.invariant.room (rw run at c.in_default.ensures.full)

pub loop-block-preserved : goal.loop-block-preserved
loop-block-preserved g c =
    let t = c.args.t.now in
    let f = t.fti in
    let b = c.loop-block.block in
    let valid = c.symbol_length.ensures.valid in
    let inside : c.loop-block.block < block_count c.args.t.now.fti = omega (arith, c.loop-block-test.true, c.block_count-block-end.ensures.value) in
    let room : c.block_bytes.result ≤ length c.loop-block.sources = omega (arith, c.block_bytes.ensures.value, rows_of_block f valid b, c.requires.sources, c.loop-block.auto.sources) in
    let long : length c.read_block.new.bytes ≡ block_bytes f b = c.in_ok-read_block.ensures.len ∙ length-take-le c.block_bytes.result c.loop-block.sources room ∙ c.block_bytes.ensures.value in
    let sent = pairs_of_block f in
    let at : c.loop-block.place ≡ 0 + length (flat_map (pairs_of_block f) (below b)) = omega (arith, c.loop-block.invariant.place) in
    let run = whole_run f b c.n-count.result c.n-count.ensures.value in
    let more = length_next sent b in
    let few : length (sent b) ≡ c.n-count.result = ap length (sym run) ∙ length-run_of b 0 c.n-count.result in
    record {
      read =
          next_read f valid b _ _ _ c.loop-block.invariant.read inside _ c.read_block.new.bytes long c.in_ok-read_block.ensures.bytes c.in_ok-read_block.ensures.read _
          (λ object bytes are done. behind_sends object f t.tsi t.toi t.every 0 c.loop-block.place (flat_map sent (below b)) (sent b) at _ _ _ _ (flat_next sent b) done
          (rw run at (c.in-Ok.ensures.sent object bytes are)));
      place = omega (arith, c.loop-block.invariant.place, more, few);
      few = omega (arith, c.loop-block.invariant.few, c.n-count.ensures.byte);
      room = behind_room f t.every 0 c.loop-block.place (flat_map sent (below b)) (sent b) at _ _ _ _ (flat_next sent b) c.loop-block.invariant.room (rw run at c.in-Ok.ensures.fills);
      stays = c.in_ok-read_block.ensures.stays ∙ c.loop-block.invariant.stays;
    }

pub returns-clause-ok : goal.returns-clause-ok
returns-clause-ok g c =
    let end : c.loop-block.block ≡ block_count c.args.t.now.fti = omega (arith, c.loop-block-test.false, c.loop-block.auto.block-end, c.block_count-block-end.ensures.value) in
    rw end at c.loop-block.invariant.read

use Rattle.std.proofs.Common.{◌≡◌, ◌≤◌, length, ap, arith, ◌∙◌, sym, mul-le-mul_right}
use Rattle.std.proofs.lemmas.Grind.{common_steps}
use Rattle.std.specs.Prelude.{flat_map}
use Rattle.lists.specs.Below.{below}
use Rattle.partition.proofs.Laws.{encoding_most}
use Rattle.block_code.proofs.SourceRows.{bytes_fit}
use Rattle.encoder.specs.Passes.{pairs_in}
use Rattle.encoder.proofs.Sent.{nothing_sent, behind_sends, behind_some, behind_room, behind_short, flat_next, flat_parts, if_err, length_next}
use Rattle.encoder.proofs.InPasses.{length-run_of}
use Rattle.encoder.proofs.sending.send_pass.Goals as goal

pub loop-block-init : goal.loop-block-init
unfolding below
loop-block-init g c =
    let t = c.args.t.now in
    record { sent = nothing_sent c.args.object.now t.fti t.tsi t.toi t.every _; next = omega arith; few = omega arith; room = omega arith }

pub returns-in_err-send_symbols-clause-some : goal.returns-in_err-send_symbols-clause-some
returns-in_err-send_symbols-clause-some g c =
    let t = c.args.t.now in
    let sent = pairs_in c.args.t.now.order t.fti c.args.pass in
    let b = c.loop-block.block in
    let parts = flat_parts sent b _ (rw c.block_count-block-end.ensures.value at c.loop-block-test.true) in
    if_err _ _ (behind_some c.args.object.now t.fti t.tsi t.toi t.every c.args.place c.loop-block.next (flat_map sent (below b)) (sent b) c.loop-block.invariant.next _ _ _ _
    parts.0 parts.1 c.loop-block.invariant.sent (rw c.run_in_pass-run.ensures.pairs at (c.in_err-send_symbols.ensures.some c.args.object.now (bytes_fit c.args.object.now c.type_inv.object) c.block_of-sources.ensures)))

pub returns-in_err-send_symbols-clause-full : goal.returns-in_err-send_symbols-clause-full
returns-in_err-send_symbols-clause-full g c =
    let t = c.args.t.now in
    let sent = pairs_in c.args.t.now.order t.fti c.args.pass in
    let b = c.loop-block.block in
    let parts = flat_parts sent b _ (rw c.block_count-block-end.ensures.value at c.loop-block-test.true) in
    if_err _ _ (behind_short t.fti t.every c.args.place c.loop-block.next (flat_map sent (below b)) (sent b) c.loop-block.invariant.next _ _ _
    parts.0 parts.1 c.loop-block.invariant.room (rw c.run_in_pass-run.ensures.pairs at c.in_err-send_symbols.ensures.full))

pub loop-block-preserved : goal.loop-block-preserved
loop-block-preserved g c =
    let t = c.args.t.now in
    let sent = pairs_in c.args.t.now.order t.fti c.args.pass in
    let b = c.loop-block.block in
    let more = length_next sent b in
    let long : length (sent b) ≡ c.run_in_pass-run.result.count = ap length (sym c.run_in_pass-run.ensures.pairs) ∙ length-run_of c.run_in_pass-run.result.block c.run_in_pass-run.result.first c.run_in_pass-run.result.count in
    let most = encoding_most t.fti c.symbol_length.ensures.valid b in
    record {
      sent = behind_sends c.args.object.now t.fti t.tsi t.toi t.every c.args.place c.loop-block.next (flat_map sent (below b)) (sent b) c.loop-block.invariant.next _ _ _ _ (flat_next sent b)
          c.loop-block.invariant.sent (rw c.run_in_pass-run.ensures.pairs at (c.in_ok-send_symbols.ensures.sent c.args.object.now (bytes_fit c.args.object.now c.type_inv.object) c.block_of-sources.ensures));
      next = omega (arith, c.loop-block.invariant.next, more, long);
      few = omega (arith, c.loop-block.invariant.few, c.run_in_pass-run.ensures.within, most, c.symbol_length.ensures.valid.max_below);
      room = behind_room t.fti t.every c.args.place c.loop-block.next (flat_map sent (below b)) (sent b) c.loop-block.invariant.next _ _ _ _ (flat_next sent b)
          c.loop-block.invariant.room (rw c.run_in_pass-run.ensures.pairs at c.in_ok-send_symbols.ensures.fills);
    }

pub slice_bounds-room-end : goal.slice_bounds-room-end
slice_bounds-room-end g c = grind (arith, common_steps) steps 2000000

pub slice_bounds-room-end-in-loop-block : goal.slice_bounds-room-end-in-loop-block
slice_bounds-room-end-in-loop-block g c = grind (arith, common_steps) steps 2000000

pub send_symbols-requires-clause-symbols : goal.send_symbols-requires-clause-symbols
send_symbols-requires-clause-symbols g c = grind (arith, common_steps) steps 2000000

pub overflow_mul-room : goal.overflow_mul-room
overflow_mul-room g c =
    let most = encoding_most c.args.t.now.fti c.symbol_length.ensures.valid c.loop-block.block in
    let few : c.run_in_pass-run.result.count ≤ 255 = omega (arith, c.run_in_pass-run.ensures.within, most, c.symbol_length.ensures.valid.max_below) in
    record { fits = omega (arith, mul-le-mul_right c.from-size.result few, c.from-size.ensures, c.symbol_length.type_inv) }

pub send_symbols-requires-clause-codes : goal.send_symbols-requires-clause-codes
send_symbols-requires-clause-codes g c = c.requires.codes

pub send_symbols-requires-clause-datagram : goal.send_symbols-requires-clause-datagram
send_symbols-requires-clause-datagram g c = c.loop-block.auto.datagram ∙ c.requires.datagram

pub send_symbols-requires-clause-within : goal.send_symbols-requires-clause-within
send_symbols-requires-clause-within g c = rw c.run_in_pass-run.ensures.block c.run_in_pass-run.ensures.within

pub send_symbols-requires-clause-place : goal.send_symbols-requires-clause-place
send_symbols-requires-clause-place g c =
    let most = encoding_most c.args.t.now.fti c.symbol_length.ensures.valid c.loop-block.block in
    let few : c.run_in_pass-run.result.count ≤ 255 = omega (arith, c.run_in_pass-run.ensures.within, most, c.symbol_length.ensures.valid.max_below) in
    omega (arith, few, c.loop-block.invariant.few, c.loop-block.auto.block-end, c.block_count-block-end.ensures.few, c.requires.place)

use Rattle.std.proofs.Common.{◌≡◌, ◌≤◌, ℕ, ◌+◌, ◌*◌, ◌∙◌, [], ◌∷◌, map, ap, sym, arith, mul-le-mul_right}
use Rattle.lists.specs.Below.{below}
use Rattle.partition.proofs.Laws.{encoding_most}
use Rattle.encoder.proofs.Sent.{nothing_sent, behind_sends, behind_some, behind_room, behind_short, if_err, length_of_map, map_next, map_parts, one_frame}
use Rattle.encoder.proofs.InPasses.{row_agrees}
use Rattle.encoder.proofs.sending.send_symbols.Goals as goal

pub loop-i-init : goal.loop-i-init
unfolding below
loop-i-init g c =
    let t = c.args.t.now in
    record { sent = λ object bytes are. nothing_sent object t.fti t.tsi t.toi t.every _; datagram = c.requires.datagram; room = omega arith }

pub overflow_cast-esi : goal.overflow_cast-esi
overflow_cast-esi g c =
    let f = c.args.t.now.fti in
    let most = encoding_most f c.symbol_length.ensures.valid c.args.run.block in
    record { fits = omega (arith, most, c.symbol_length.ensures.valid.max_below, c.requires.within, c.loop-i-test.true) }

pub returns-in_err-send_symbol-clause-some : goal.returns-in_err-send_symbol-clause-some
returns-in_err-send_symbol-clause-some g c = λ object bytes are.
    let t = c.args.t.now in
    let pair : ℕ → ℕ × ℕ = λ i. (c.args.run.block, c.args.run.first + i) in
    let i = c.loop-i.i in
    let parts = map_parts pair i c.args.run.count c.loop-i-test.true in
    let some = c.in_err-send_symbol.ensures.some object
    (row_agrees object t.fti c.args.run.block (c.args.run.first + c.loop-i.i) c.from-size.result c.loop-i.i c.encoding_symbols.new.out
    (c.from-size.ensures ∙ c.symbol_length.ensures.value) (c.encoding_symbols.ensures.symbols object bytes are c.loop-i.i c.loop-i-test.true)) in
    if_err _ _ (behind_some object t.fti t.tsi t.toi t.every c.args.place (c.args.place + i) (map pair (below i)) (pair i ∷ [])
    (ap (λ (n : ℕ). c.args.place + n) (sym (length_of_map pair i))) _ _ _ (map pair (below c.args.run.count)) parts.0 parts.1 (c.loop-i.invariant.sent object bytes are) some)

pub returns-in_err-send_symbol-clause-full : goal.returns-in_err-send_symbol-clause-full
returns-in_err-send_symbol-clause-full g c =
    let t = c.args.t.now in
    let pair : ℕ → ℕ × ℕ = λ i. (c.args.run.block, c.args.run.first + i) in
    let i = c.loop-i.i in
    let parts = map_parts pair i c.args.run.count c.loop-i-test.true in
    if_err _ _ (behind_short t.fti t.every c.args.place (c.args.place + i) (map pair (below i)) (pair i ∷ [])
    (ap (λ (n : ℕ). c.args.place + n) (sym (length_of_map pair i))) _ _ (map pair (below c.args.run.count)) parts.0 parts.1 c.loop-i.invariant.room (omega (arith, one_frame t.fti t.every (c.args.place + i) (pair i), c.in_err-send_symbol.ensures.full)))

pub loop-i-preserved : goal.loop-i-preserved
loop-i-preserved g c =
    let t = c.args.t.now in
    let pair : ℕ → ℕ × ℕ = λ i. (c.args.run.block, c.args.run.first + i) in
    let i = c.loop-i.i in
    let at = ap (λ (n : ℕ). c.args.place + n) (sym (length_of_map pair i)) in
    record {
      sent = λ object bytes are. behind_sends object t.fti t.tsi t.toi t.every c.args.place (c.args.place + i) (map pair (below i)) (pair i ∷ []) at _ _ _ (map pair (below (i + 1))) (map_next pair i)
          (c.loop-i.invariant.sent object bytes are) (c.in_ok-send_symbol.ensures.sent object (row_agrees object t.fti c.args.run.block (c.args.run.first + c.loop-i.i) c.from-size.result c.loop-i.i c.encoding_symbols.new.out
          (c.from-size.ensures ∙ c.symbol_length.ensures.value) (c.encoding_symbols.ensures.symbols object bytes are c.loop-i.i c.loop-i-test.true)));
      datagram = c.send_symbol.auto.datagram ∙ c.loop-i.invariant.datagram;
      room = behind_room t.fti t.every c.args.place (c.args.place + i) (map pair (below i)) (pair i ∷ []) at _ _ _ (map pair (below (i + 1))) (map_next pair i)
          c.loop-i.invariant.room (omega (arith, one_frame t.fti t.every (c.args.place + i) (pair i), c.in_ok-send_symbol.ensures.fills));
    }

pub overflow_mul-symbol : goal.overflow_mul-symbol
overflow_mul-symbol g c =
    let f = c.args.t.now.fti in
    let most = encoding_most f c.symbol_length.ensures.valid c.args.run.block in
    let few : c.loop-i.i ≤ 255 = omega (arith, most, c.symbol_length.ensures.valid.max_below, c.requires.within, c.loop-i-test.true) in
    record { fits = omega (arith, mul-le-mul_right c.from-size.result few, c.from-size.ensures, c.symbol_length.type_inv) }

pub overflow_mul-symbol-in-loop-i : goal.overflow_mul-symbol-in-loop-i
overflow_mul-symbol-in-loop-i g c =
    let f = c.args.t.now.fti in
    let most = encoding_most f c.symbol_length.ensures.valid c.args.run.block in
    let few : c.loop-i.i + 1 ≤ 255 = omega (arith, most, c.symbol_length.ensures.valid.max_below, c.requires.within, c.loop-i-test.true) in
    record { fits = omega (arith, mul-le-mul_right c.from-size.result few, c.from-size.ensures, c.symbol_length.type_inv) }

pub slice_bounds-symbol-end : goal.slice_bounds-symbol-end
slice_bounds-symbol-end g c =
    let size = c.from-size.ensures ∙ c.symbol_length.ensures.value in
    let all : c.args.run.count * c.from-size.result ≡ c.args.run.count * c.args.t.now.fti.symbol_length = ap (λ (v : ℕ). c.args.run.count * v) size in
    let next : c.loop-i.i + 1 ≤ c.args.run.count = omega (arith, c.loop-i-test.true) in
    omega (arith, mul-le-mul_right c.from-size.result next, all, c.encoding_symbols.ensures.len, c.requires.symbols)

pub returns-clause-sent : goal.returns-clause-sent
returns-clause-sent g c =
    let end : c.loop-i.i ≡ c.args.run.count = omega (arith, c.loop-i-test.false, c.loop-i.auto.i-end) in
    rw end at c.loop-i.invariant.sent

pub returns-clause-fills : goal.returns-clause-fills
returns-clause-fills g c =
    let end : c.loop-i.i ≡ c.args.run.count = omega (arith, c.loop-i-test.false, c.loop-i.auto.i-end) in
    rw end at c.loop-i.invariant.room

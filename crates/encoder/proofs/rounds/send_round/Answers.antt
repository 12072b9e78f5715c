use Rattle.std.proofs.Common.{◌≡◌, ◌<◌, ◌≤◌, ◌+◌, ◌-◌, ◌*◌, ◌++◌, ◌∙◌, ℕ, List, [], ◌∷◌, length, ap, sym, subst, arith}
use Rattle.std.proofs.lemmas.List.{append-nil}
use Rattle.std.specs.Prelude.{flat_map}
use Rattle.lists.specs.Below.{below}
use Rattle.partition.specs.Fti.{block_count, encoding_count}
use Rattle.partition.specs.declared.order.Order.TheVariants.{Rounds}
use Rattle.encoder.specs.Passes.{pairs_in}
use Rattle.encoder.specs.Sending.{AreSent, Sends, SendsSome, items_from, session_bytes}
use Rattle.encoder.proofs.RoundRows.{made_at, row_of_earlier}
use Rattle.encoder.proofs.Sent.{nothing_sent, behind_sends, behind_some, behind_room, behind_short, flat_next, flat_parts, if_err, length_next, one_frame, with_pair, without_pair}
use Rattle.encoder.proofs.rounds.send_round.Goals.{then-from-n+in_ok-send_symbol, else-from-n}
use Rattle.encoder.proofs.rounds.send_round.Goals as goal

pub loop-block-init : goal.loop-block-init
unfolding below
loop-block-init g c =
    let t = c.args.t.now in
    record {
      sent = λ object made. nothing_sent object t.fti t.tsi t.toi t.every _;
      next = omega arith;
      few = omega arith;
      datagram = c.requires.datagram;
      room = omega arith;
    }

pub returns-in_err-send_symbol-clause-some : goal.returns-in_err-send_symbol-clause-some
returns-in_err-send_symbol-clause-some g c = λ object made.
    let t = c.args.t.now in
    let f = t.fti in
    let sent = pairs_in Rounds f c.args.esi in
    let b : ℕ = c.loop-block.block in
    let hb : b < block_count f = rw c.block_count-block-end.ensures.value at c.loop-block-test.true in
    let has : c.args.esi < encoding_count f b = omega (arith, c.if-from-n.true, c.from-in-loop-block.ensures, c.n.ensures.value) in
    let one = with_pair f c.args.esi b has in
    let parts = flat_parts sent b (block_count f) hb in
    let agrees = made_at object f c.args.batch.first c.args.batch.count c.args.symbols.now made b c.args.esi c.from.result c.from-size.result hb c.from.ensures c.requires.first c.requires.last has
    (c.from-size.ensures ∙ c.symbol_length.ensures.value) in
    let some = subst (λ (ps : List (ℕ × ℕ)). SendsSome (AreSent object f t.tsi t.toi t.every) (items_from c.loop-block.next ps) (g.W.Write.contents c.loop-block.writer) (g.W.Write.contents c.send_symbol.new.writer))
    (sym one) (c.in_err-send_symbol.ensures.some object agrees) in
    if_err _ _ (behind_some object f t.tsi t.toi t.every c.args.place c.loop-block.next (flat_map sent (below b)) (sent b) c.loop-block.invariant.next _ _ _ _
    parts.0 parts.1 (c.loop-block.invariant.sent object made) some)

pub returns-in_err-send_symbol-clause-full : goal.returns-in_err-send_symbol-clause-full
returns-in_err-send_symbol-clause-full g c =
    let t = c.args.t.now in
    let f = t.fti in
    let sent = pairs_in Rounds f c.args.esi in
    let b : ℕ = c.loop-block.block in
    let hb : b < block_count f = rw c.block_count-block-end.ensures.value at c.loop-block-test.true in
    let has : c.args.esi < encoding_count f b = omega (arith, c.if-from-n.true, c.from-in-loop-block.ensures, c.n.ensures.value) in
    let one = with_pair f c.args.esi b has in
    let parts = flat_parts sent b (block_count f) hb in
    let full : g.W.Write.room c.loop-block.writer < session_bytes f t.every (items_from c.loop-block.next ((b, c.args.esi) ∷ [])) =
    omega (arith, one_frame f t.every c.loop-block.next (b, c.args.esi), c.in_err-send_symbol.ensures.full) in
    if_err _ _ (behind_short f t.every c.args.place c.loop-block.next (flat_map sent (below b)) (sent b) c.loop-block.invariant.next _ _ _
    parts.0 parts.1 c.loop-block.invariant.room
    (subst (λ (ps : List (ℕ × ℕ)). g.W.Write.room c.loop-block.writer < session_bytes f t.every (items_from c.loop-block.next ps)) (sym one) full))

pub loop-block-preserved : goal.loop-block-preserved
loop-block-preserved g c =
    let t = c.args.t.now in
    let f = t.fti in
    let sent = pairs_in Rounds f c.args.esi in
    let b : ℕ = c.loop-block.block in
    let hb : b < block_count f = rw c.block_count-block-end.ensures.value at c.loop-block-test.true in
    let more = length_next sent b in
    elim c.if-from-n.branch [
      | then-from-n+in_ok-send_symbol w ↦
          (let has : c.args.esi < encoding_count f b = omega (arith, w.if-from-n.true, c.from-in-loop-block.ensures, c.n.ensures.value) in
          let one = with_pair f c.args.esi b has in
          let long : length (sent b) ≡ 1 = ap length one in
          let fits : g.W.Write.room c.loop-block.writer ≤ g.W.Write.room w.send_symbol.new.writer + session_bytes f t.every (items_from c.loop-block.next ((b, c.args.esi) ∷ [])) =
          omega (arith, one_frame f t.every c.loop-block.next (b, c.args.esi), w.in_ok-send_symbol.ensures.fills) in
          rw (w.writer-is, w.next-is, w.datagram-is) (record {
            sent = λ object made.
                let agrees = made_at object f c.args.batch.first c.args.batch.count c.args.symbols.now made b c.args.esi c.from.result c.from-size.result hb c.from.ensures c.requires.first c.requires.last has
                (c.from-size.ensures ∙ c.symbol_length.ensures.value) in
                behind_sends object f t.tsi t.toi t.every c.args.place c.loop-block.next (flat_map sent (below b)) (sent b) c.loop-block.invariant.next _ _ _ _ (flat_next sent b)
                (c.loop-block.invariant.sent object made) (subst (λ (ps : List (ℕ × ℕ)). Sends (AreSent object f t.tsi t.toi t.every) (items_from c.loop-block.next ps) (g.W.Write.contents c.loop-block.writer) (g.W.Write.contents w.send_symbol.new.writer))
                (sym one) (w.in_ok-send_symbol.ensures.sent object agrees));
            next = omega (arith, c.loop-block.invariant.next, more, long);
            few = omega (arith, c.loop-block.invariant.few);
            datagram = w.send_symbol.auto.datagram ∙ c.loop-block.invariant.datagram;
            room = behind_room f t.every c.args.place c.loop-block.next (flat_map sent (below b)) (sent b) c.loop-block.invariant.next _ _ _ _ (flat_next sent b)
                c.loop-block.invariant.room
                (subst (λ (ps : List (ℕ × ℕ)). g.W.Write.room c.loop-block.writer ≤ g.W.Write.room w.send_symbol.new.writer + session_bytes f t.every (items_from c.loop-block.next ps)) (sym one) fits);
          }))
      | else-from-n w ↦
          (let none : encoding_count f b ≤ c.args.esi = omega (arith, w.if-from-n.false, c.from-in-loop-block.ensures, c.n.ensures.value) in
          let nothing = without_pair f c.args.esi b none in
          let same : flat_map sent (below (b + 1)) ≡ flat_map sent (below b) =
          flat_next sent b ∙ ap (λ (l : List (ℕ × ℕ)). flat_map sent (below b) ++ l) nothing ∙ append-nil (flat_map sent (below b)) in
          rw (w.writer-is, w.next-is, w.datagram-is, same) (record {
            sent = c.loop-block.invariant.sent;
            next = c.loop-block.invariant.next;
            few = omega (arith, c.loop-block.invariant.few);
            datagram = c.loop-block.invariant.datagram;
            room = c.loop-block.invariant.room;
          }))
    ]

pub returns-clause-sent : goal.returns-clause-sent
returns-clause-sent g c =
    let end : c.loop-block.block ≡ block_count c.args.t.now.fti = omega (arith, c.loop-block-test.false, c.loop-block.auto.block-end, c.block_count-block-end.ensures.value) in
    rw end at c.loop-block.invariant.sent

pub returns-clause-next : goal.returns-clause-next
returns-clause-next g c =
    let end : c.loop-block.block ≡ block_count c.args.t.now.fti = omega (arith, c.loop-block-test.false, c.loop-block.auto.block-end, c.block_count-block-end.ensures.value) in
    rw end at c.loop-block.invariant.next

pub returns-clause-fills : goal.returns-clause-fills
returns-clause-fills g c =
    let end : c.loop-block.block ≡ block_count c.args.t.now.fti = omega (arith, c.loop-block-test.false, c.loop-block.auto.block-end, c.block_count-block-end.ensures.value) in
    rw end at c.loop-block.invariant.room

pub returns-clause-few : goal.returns-clause-few
returns-clause-few g c = omega (arith, c.loop-block.invariant.few, c.loop-block.auto.block-end, c.block_count-block-end.ensures.few)

pub slice_bounds-symbol-end : goal.slice_bounds-symbol-end
slice_bounds-symbol-end g c =
    let f = c.args.t.now.fti in
    let count : ℕ = c.args.batch.count in
    let r : ℕ = c.from.result - c.args.batch.first in
    let few : r < count = omega (arith, c.from.ensures, c.requires.first, c.requires.last) in
    let hb : c.loop-block.block < block_count f = rw c.block_count-block-end.ensures.value at c.loop-block-test.true in
    let ends = row_of_earlier c.loop-block.block (block_count f) count r c.from-size.result hb few in
    let same : count * c.from-size.result ≡ count * f.symbol_length = ap (λ (v : ℕ). count * v) (c.from-size.ensures ∙ c.symbol_length.ensures.value) in
    let all = ap (λ (n : ℕ). block_count f * n) same in
    omega (arith, ends, all, c.requires.room)

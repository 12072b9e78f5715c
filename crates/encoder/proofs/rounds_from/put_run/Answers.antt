use Rattle.std.proofs.Common.{◌≡◌, ◌<◌, ◌≤◌, ◌+◌, ◌-◌, ◌*◌, ◌∙◌, ℕ, List, Some, take, length, drop, ap, sym, subst, arith, length-take, length-drop, ◌++◌}
use Rattle.std.specs.Prelude.{flat_map}
use Rattle.std.proofs.lemmas.List.{append-nil}
use Rattle.std.proofs.Math.Nat.{mul-le-mul_right}
use Rattle.lists.specs.Below.{below}
use Rattle.partition.specs.Fti.{encoding_count}
use Rattle.partition.proofs.Laws.{some_block}
use Rattle.streams.proofs.Fills.{take_filled}
use borrow.Rule.Slice.PartMut.{put_mid}
use Rattle.block_code.proofs.RowAdding.{products}
use Rattle.encoder.specs.Sending.{AreSent, Sends, items_from, pair_with}
use Rattle.encoder.proofs.FrameOffsets.{offset_next}
use Rattle.encoder.proofs.Groups.{symbol_at}
use Rattle.encoder.proofs.RoundRows.{row_of_earlier}
use Rattle.encoder.proofs.InPasses.{first_most}
use Rattle.encoder.proofs.Sent.{nothing_sent, one_sent, behind_sends, flat_next, length_next, with_pair, without_pair}
use Rattle.encoder.proofs.rounds_from.put_run.Goals.{then-from-n, else-from-n}
use Rattle.encoder.proofs.rounds_from.put_run.Goals as goal

pub n-part-requires : goal.n-part-requires
n-part-requires c = some_block c.args.t.now.fti c.symbol_length.ensures.valid

pub loop-i-init : goal.loop-i-init
unfolding below
loop-i-init c =
    let t = c.args.t.now in
    record {
      sent = λ object made. nothing_sent object t.fti t.tsi t.toi t.every _;
      next = omega arith;
      few = omega arith;
      size = omega arith;
      room = omega arith;
    }

pub slice_bounds-symbol-end : goal.slice_bounds-symbol-end
slice_bounds-symbol-end c =
    let f = c.args.t.now.fti in
    let r : ℕ = c.from-then-from-n.result in
    let few : r < c.n-part.result = omega (arith, c.from-then-from-n.ensures, c.from.ensures, c.if-from-n.true, c.n.ensures.value, first_most f c.symbol_length.ensures.valid (c.args.group.first + c.loop-i.i), c.n-part.ensures.value) in
    let ends = row_of_earlier c.loop-i.i c.args.group.count c.n-part.result r c.from-size.result c.loop-i-test.true few in
    let one = products c.n-part.result c.from-size.result (encoding_count f 0) f.symbol_length c.n-part.ensures.value (c.from-size.ensures ∙ c.symbol_length.ensures.value) in
    let all = ap (λ (n : ℕ). c.args.group.count * n) one in
    omega (arith, ends, all, c.requires.symbols)

pub slice_bounds-put_frame-count : goal.slice_bounds-put_frame-count
slice_bounds-put_frame-count c =
    let f = c.args.t.now.fti in
    let most : c.loop-i.i * (34 + f.symbol_length) ≤ c.args.group.count * (34 + f.symbol_length) = mul-le-mul_right (34 + f.symbol_length) (omega (arith, c.loop-i-test.true)) in
    omega (arith, most, c.loop-i.invariant.room, c.requires.room, c.loop-i.auto.run)

pub slice_bounds-put_frame-start : goal.slice_bounds-put_frame-start
slice_bounds-put_frame-start c =
    let f = c.args.t.now.fti in
    let most : c.loop-i.i * (34 + f.symbol_length) ≤ c.args.group.count * (34 + f.symbol_length) = mul-le-mul_right (34 + f.symbol_length) (omega (arith, c.loop-i-test.true)) in
    let within : c.loop-i.at ≤ length c.loop-i.run = omega (arith, most, c.loop-i.invariant.room, c.requires.room, c.loop-i.auto.run) in
    omega (arith, within)

pub put_frame-at-requires-clause-room : goal.put_frame-at-requires-clause-room
put_frame-at-requires-clause-room c =
    let f = c.args.t.now.fti in
    let most : (c.loop-i.i + 1) * (34 + f.symbol_length) ≤ c.args.group.count * (34 + f.symbol_length) = mul-le-mul_right (34 + f.symbol_length) (omega (arith, c.loop-i-test.true)) in
    let long : length c.loop-i.run ≡ length c.args.run.now = c.loop-i.auto.run in
    omega (arith, most, c.loop-i.invariant.room, c.requires.room, long, length-take (length c.loop-i.run - c.loop-i.at) (drop c.loop-i.at c.loop-i.run), length-drop c.loop-i.at c.loop-i.run)

pub loop-i-preserved : goal.loop-i-preserved
loop-i-preserved c =
    let t = c.args.t.now in
    let f = t.fti in
    let j : ℕ = c.args.esi in
    let b : ℕ = c.args.group.first + c.loop-i.i in
    let part : ℕ → List (ℕ × ℕ) = λ k. pair_with f j (c.args.group.first + k) in
    let more = length_next part c.loop-i.i in
    elim c.if-from-n.branch [
      | then-from-n w ↦
          (let has : j < encoding_count f b = omega (arith, w.if-from-n.true, c.from.ensures, c.n.ensures.value) in
          let one = with_pair f j b has in
          let long : length (part c.loop-i.i) ≡ 1 = ap length one in
          let next = offset_next f t.every c.loop-i.next in
          let most : (c.loop-i.i + 1) * (34 + f.symbol_length) ≤ c.args.group.count * (34 + f.symbol_length) = mul-le-mul_right (34 + f.symbol_length) (omega (arith, c.loop-i-test.true)) in
          let at : c.loop-i.at + (34 + f.symbol_length) ≤ length c.loop-i.run = omega (arith, most, c.loop-i.invariant.room, c.requires.room, c.loop-i.auto.run) in
          let few : w.put_frame-at.result ≤ length w.put_frame-at.new.out =
          omega (arith, at, w.put_frame-at.ensures.most, w.put_frame-at.auto.out, length-take (length c.loop-i.run - c.loop-i.at) (drop c.loop-i.at c.loop-i.run), length-drop c.loop-i.at c.loop-i.run) in
          let now : List ℕ = take (c.loop-i.at + w.put_frame-at.result) (put_mid c.loop-i.at (length c.loop-i.run - c.loop-i.at) c.loop-i.run w.put_frame-at.new.out) in
          rw (w.run-is, w.at-is, w.next-is) (record {
            sent = λ object made.
                let agrees = symbol_at object f c.args.group.first c.args.group.count c.loop-i.i j c.n-part.result w.from-then-from-n.result c.from-size.result c.args.symbols.now made c.loop-i-test.true has
                c.n-part.ensures.value w.from-then-from-n.ensures (c.from-size.ensures ∙ c.symbol_length.ensures.value) in
                let own = w.put_frame-at.ensures.frame object agrees in
                let gained = take_filled c.loop-i.at w.put_frame-at.result (length c.loop-i.run - c.loop-i.at) c.loop-i.run w.put_frame-at.new.out (omega (arith, at)) few
                ∙ ap (λ (l : List ℕ). take c.loop-i.at c.loop-i.run ++ l) own.framed in
                let sent = one_sent object f t.tsi t.toi t.every (record { place = c.loop-i.next; block = b; esi = j }) own.datagram (Some (take c.loop-i.at c.loop-i.run)) (Some now) own.sent gained in
                behind_sends object f t.tsi t.toi t.every c.args.place c.loop-i.next (flat_map part (below c.loop-i.i)) (part c.loop-i.i) c.loop-i.invariant.next _ _ _ _ (flat_next part c.loop-i.i)
                (c.loop-i.invariant.sent object made)
                (subst (λ (ps : List (ℕ × ℕ)). Sends (AreSent object f t.tsi t.toi t.every) (items_from c.loop-i.next ps) (Some (take c.loop-i.at c.loop-i.run)) (Some now)) (sym one) sent);
            next = omega (arith, c.loop-i.invariant.next, more, long);
            few = omega (arith, c.loop-i.invariant.few);
            size = omega (arith, c.loop-i.invariant.size, next, w.put_frame-at.ensures.size);
            room = omega (arith, c.loop-i.invariant.room, w.put_frame-at.ensures.most);
          }))
      | else-from-n w ↦
          (let none : encoding_count f b ≤ j = omega (arith, w.if-from-n.false, c.from.ensures, c.n.ensures.value) in
          let nothing = without_pair f j b none in
          let same : flat_map part (below (c.loop-i.i + 1)) ≡ flat_map part (below c.loop-i.i) =
          flat_next part c.loop-i.i ∙ ap (λ (l : List (ℕ × ℕ)). flat_map part (below c.loop-i.i) ++ l) nothing ∙ append-nil (flat_map part (below c.loop-i.i)) in
          rw (w.run-is, w.at-is, w.next-is, same) (record {
            sent = c.loop-i.invariant.sent;
            next = c.loop-i.invariant.next;
            few = omega (arith, c.loop-i.invariant.few);
            size = c.loop-i.invariant.size;
            room = omega (arith, c.loop-i.invariant.room);
          }))
    ]

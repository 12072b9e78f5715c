use Rattle.std.proofs.Common.{◌≡◌, ◌<◌, ◌≤◌, ◌+◌, ◌∙◌, ℕ, length, refl, arith}
use Rattle.std.specs.Prelude.{flat_map}
use Rattle.lists.specs.Below.{below}
use Rattle.partition.specs.declared.order.Order.TheVariants.{Rounds}
use Rattle.encoder.specs.Passes.{pairs_of_pass}
use Rattle.encoder.specs.Rounds.{AreMade}
use Rattle.encoder.proofs.Sent.{nothing_sent, behind_sends, behind_some, behind_room, behind_short, flat_next, flat_parts, if_err, length_next}
use Rattle.encoder.proofs.InPasses.{by_passes}
use Rattle.encoder.proofs.rounds.send_rounds.Goals.{then-first-batch, then-first-sources, else-first-sources, else-first-batch}
use Rattle.encoder.proofs.rounds.send_rounds.Goals as goal

pub loop-esi-init : goal.loop-esi-init
unfolding below
loop-esi-init g c =
    let t = c.args.t.now in
    record {
      sent = nothing_sent c.args.object.now t.fti t.tsi t.toi t.every _;
      count = refl;
      few = omega arith;
      room = omega arith;
      datagram = c.requires.datagram;
      from = omega arith;
      to = omega arith;
      few_made = omega arith;
      made = λ lt b hb r lr. absurd (omega (arith, lr));
    }

pub returns-in_err-place-clause-some : goal.returns-in_err-place-clause-some
returns-in_err-place-clause-some g c =
    let t = c.args.t.now in
    let sent = pairs_of_pass Rounds t.fti in
    let p : ℕ = c.loop-esi.esi in
    let at : c.loop-esi.place ≡ 0 + length (flat_map sent (below p)) = omega (arith, c.loop-esi.invariant.count) in
    let parts = flat_parts sent p _ (rw c.max_symbols-esi-end.ensures.value at c.loop-esi-test.true) in
    let made : AreMade c.args.object.now t.fti c.if-first-batch.batch.first c.if-first-batch.batch.count c.if-first-batch.symbols =
    elim c.if-first-batch.branch [
      | then-first-batch w ↦ rw (w.batch-is, w.symbols-is) w.make.ensures
      | else-first-batch w ↦ rw (w.batch-is, w.symbols-is) (c.loop-esi.invariant.made (omega (arith, w.if-first-batch.false, c.from-first.ensures, c.loop-esi.invariant.to)))
    ] in
    if_err _ _ (rw (by_passes Rounds t.fti) at
    (behind_some c.args.object.now t.fti t.tsi t.toi t.every 0 c.loop-esi.place (flat_map sent (below p)) (sent p) at _ _ _ _
    parts.0 parts.1 c.loop-esi.invariant.sent (c.in_err-place.ensures.some c.args.object.now made)))

pub returns-in_err-place-clause-full : goal.returns-in_err-place-clause-full
returns-in_err-place-clause-full g c =
    let t = c.args.t.now in
    let sent = pairs_of_pass Rounds t.fti in
    let p : ℕ = c.loop-esi.esi in
    let at : c.loop-esi.place ≡ 0 + length (flat_map sent (below p)) = omega (arith, c.loop-esi.invariant.count) in
    let parts = flat_parts sent p _ (rw c.max_symbols-esi-end.ensures.value at c.loop-esi-test.true) in
    if_err _ _ (rw (by_passes Rounds t.fti) at
    (behind_short t.fti t.every 0 c.loop-esi.place (flat_map sent (below p)) (sent p) at _ _ _
    parts.0 parts.1 c.loop-esi.invariant.room c.in_err-place.ensures.full))

pub loop-esi-preserved : goal.loop-esi-preserved
loop-esi-preserved g c =
    let t = c.args.t.now in
    let sent = pairs_of_pass Rounds t.fti in
    let p : ℕ = c.loop-esi.esi in
    let at : c.loop-esi.place ≡ 0 + length (flat_map sent (below p)) = omega (arith, c.loop-esi.invariant.count) in
    let more = length_next sent p in
    let made : AreMade c.args.object.now t.fti c.if-first-batch.batch.first c.if-first-batch.batch.count c.if-first-batch.symbols =
    elim c.if-first-batch.branch [
      | then-first-batch w ↦ rw (w.batch-is, w.symbols-is) w.make.ensures
      | else-first-batch w ↦ rw (w.batch-is, w.symbols-is) (c.loop-esi.invariant.made (omega (arith, w.if-first-batch.false, c.from-first.ensures, c.loop-esi.invariant.to)))
    ] in
    let batch : (c.if-first-batch.batch.first ≤ p) × (p < c.if-first-batch.batch.first + c.if-first-batch.batch.count) × (c.if-first-batch.batch.count ≤ c.args.at_once) =
    elim c.if-first-batch.branch [
      | then-first-batch w ↦ elim w.if-first-sources.branch [
        | then-first-sources v ↦ rw (w.batch-is, v.count-is) (omega (arith, c.from-first.ensures), omega (arith, c.from-first.ensures), omega (arith, c.requires.some))
        | else-first-sources v ↦ rw (w.batch-is, v.count-is) (omega (arith, c.from-first.ensures), omega (arith, c.from-first.ensures, c.requires.some), omega arith)
      ]
      | else-first-batch w ↦ rw w.batch-is
          (c.loop-esi.invariant.from, omega (arith, w.if-first-batch.false, c.from-first.ensures, c.loop-esi.invariant.to), c.loop-esi.invariant.few_made)
    ] in
    record {
      sent = behind_sends c.args.object.now t.fti t.tsi t.toi t.every 0 c.loop-esi.place (flat_map sent (below p)) (sent p) at _ _ _ _ (flat_next sent p)
          c.loop-esi.invariant.sent (c.in_ok-place.ensures.sent c.args.object.now made);
      count = omega (arith, c.loop-esi.invariant.count, c.in_ok-place.ensures.next, more);
      few = omega (arith, c.loop-esi.invariant.few, c.in_ok-place.ensures.few);
      room = behind_room t.fti t.every 0 c.loop-esi.place (flat_map sent (below p)) (sent p) at _ _ _ _ (flat_next sent p)
          c.loop-esi.invariant.room c.in_ok-place.ensures.fills;
      datagram = c.send_round.auto.datagram ∙ c.loop-esi.invariant.datagram;
      from = (let l = batch.0 in omega (arith, l));
      to = (let l = batch.1 in omega (arith, l));
      few_made = batch.2;
      made = λ lt. made;
    }

use Rattle.std.proofs.Common.{◌+◌, arith, refl, length, ◌≡◌}
use Rattle.std.specs.Prelude.{flat_map}
use Rattle.lists.specs.Below.{below}
use Rattle.encoder.specs.Passes.{pairs_of_pass, passes}
use Rattle.encoder.proofs.Sent.{nothing_sent, behind_sends, behind_some, behind_room, behind_short, flat_next, flat_parts, if_err, length_next}
use Rattle.encoder.proofs.InPasses.{by_passes}
use Rattle.encoder.proofs.sending.send_all.Goals as goal

pub loop-pass-init : goal.loop-pass-init
unfolding below
loop-pass-init g c =
    let t = c.args.t.now in
    record { sent = nothing_sent c.args.object.now t.fti t.tsi t.toi t.every _; count = refl; few = omega arith; room = omega arith }

pub returns-in_err-place-clause-some : goal.returns-in_err-place-clause-some
returns-in_err-place-clause-some g c =
    let t = c.args.t.now in
    let sent = pairs_of_pass c.args.t.now.order t.fti in
    let at : c.loop-pass.place ≡ 0 + length (flat_map sent (below c.loop-pass.pass)) = omega (arith, c.loop-pass.invariant.count) in
    let parts = flat_parts sent c.loop-pass.pass _ (rw c.pass_count-pass-end.ensures at c.loop-pass-test.true) in
    if_err _ _ (rw (by_passes c.args.t.now.order t.fti) at
    (behind_some c.args.object.now t.fti t.tsi t.toi t.every 0 c.loop-pass.place (flat_map sent (below c.loop-pass.pass)) (sent c.loop-pass.pass) at _ _ _ _
    parts.0 parts.1 c.loop-pass.invariant.sent c.in_err-place.ensures.some))

pub returns-in_err-place-clause-full : goal.returns-in_err-place-clause-full
returns-in_err-place-clause-full g c =
    let t = c.args.t.now in
    let sent = pairs_of_pass c.args.t.now.order t.fti in
    let at : c.loop-pass.place ≡ 0 + length (flat_map sent (below c.loop-pass.pass)) = omega (arith, c.loop-pass.invariant.count) in
    let parts = flat_parts sent c.loop-pass.pass _ (rw c.pass_count-pass-end.ensures at c.loop-pass-test.true) in
    if_err _ _ (rw (by_passes c.args.t.now.order t.fti) at
    (behind_short t.fti t.every 0 c.loop-pass.place (flat_map sent (below c.loop-pass.pass)) (sent c.loop-pass.pass) at _ _ _
    parts.0 parts.1 c.loop-pass.invariant.room c.in_err-place.ensures.full))

pub loop-pass-preserved : goal.loop-pass-preserved
loop-pass-preserved g c =
    let t = c.args.t.now in
    let sent = pairs_of_pass c.args.t.now.order t.fti in
    let p = c.loop-pass.pass in
    let at : c.loop-pass.place ≡ 0 + length (flat_map sent (below p)) = omega (arith, c.loop-pass.invariant.count) in
    let more = length_next sent p in
    record {
      sent = behind_sends c.args.object.now t.fti t.tsi t.toi t.every 0 c.loop-pass.place (flat_map sent (below p)) (sent p) at _ _ _ _ (flat_next sent p)
          c.loop-pass.invariant.sent c.in_ok-place.ensures.sent;
      count = omega (arith, c.loop-pass.invariant.count, c.in_ok-place.ensures.next, more);
      few = omega (arith, c.loop-pass.invariant.few, c.in_ok-place.ensures.few);
      room = behind_room t.fti t.every 0 c.loop-pass.place (flat_map sent (below p)) (sent p) at _ _ _ _ (flat_next sent p)
          c.loop-pass.invariant.room c.in_ok-place.ensures.fills;
    }

-- all passes are the whole session
pub returns-clause-sent : goal.returns-clause-sent
returns-clause-sent g c =
    let t = c.args.t.now in
    let end : c.loop-pass.pass ≡ passes c.args.t.now.order t.fti = omega (arith, c.loop-pass-test.false, c.loop-pass.auto.pass-end, c.pass_count-pass-end.ensures) in
    rw (end, by_passes c.args.t.now.order t.fti) at c.loop-pass.invariant.sent

pub returns-clause-count : goal.returns-clause-count
returns-clause-count g c =
    let t = c.args.t.now in
    let end : c.loop-pass.pass ≡ passes c.args.t.now.order t.fti = omega (arith, c.loop-pass-test.false, c.loop-pass.auto.pass-end, c.pass_count-pass-end.ensures) in
    rw (end, by_passes c.args.t.now.order t.fti) at c.loop-pass.invariant.count

pub returns-clause-fills : goal.returns-clause-fills
returns-clause-fills g c =
    let t = c.args.t.now in
    let end : c.loop-pass.pass ≡ passes c.args.t.now.order t.fti = omega (arith, c.loop-pass-test.false, c.loop-pass.auto.pass-end, c.pass_count-pass-end.ensures) in
    rw (end, by_passes c.args.t.now.order t.fti) at c.loop-pass.invariant.room

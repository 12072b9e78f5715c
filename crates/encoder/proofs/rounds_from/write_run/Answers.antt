use Rattle.std.proofs.Common.{◌≡◌, ◌<◌, ◌≤◌, ◌+◌, ◌^◌, ◌∙◌, ℕ, length, take, ap, subst, arith, length-take-le}
use Rattle.partition.specs.declared.order.Order.TheVariants.{Rounds}
use Rattle.streams.specs.Offsets.{Overwrites}
use Rattle.encoder.specs.Sending.{pairs}
use Rattle.encoder.specs.RoundPlaces.{offset_of, run_of_round}
use Rattle.encoder.proofs.RoundPlaces.{place_fits, pairs_fit, place_within, run_place}
use Rattle.encoder.proofs.FrameOffsets.{offset_rising, offset_fits}
use Rattle.encoder.proofs.FramesSent.{has_room, as_long, then_ok, run_written}
use Rattle.encoder.proofs.rounds_from.write_run.Goals as goal

pub put_run-size-requires-clause-place : goal.put_run-size-requires-clause-place
put_run-size-requires-clause-place g c =
    let t = c.args.t.now in
    omega (arith, c.requires.place, place_fits t.fti t.valid c.args.esi c.args.group.first c.requires.esi (omega (arith, c.requires.blocks)))

pub frame_offset-requires-clause-place : goal.frame_offset-requires-clause-place
frame_offset-requires-clause-place g c =
    let t = c.args.t.now in
    omega (arith, c.requires.place, place_fits t.fti t.valid c.args.esi c.args.group.first c.requires.esi (omega (arith, c.requires.blocks)))

pub write_all_at-requires-clause-within : goal.write_all_at-requires-clause-within
write_all_at-requires-clause-within g c =
    let t = c.args.t.now in
    let f = t.fti in
    let sent : ℕ = length (run_of_round f c.args.esi c.args.group.first c.args.group.count) in
    let end : c.args.place + sent ≤ length (pairs Rounds f) =
    omega (arith, c.requires.place, run_place f c.args.esi c.args.group.first c.args.group.count, place_within f t.valid c.args.esi (c.args.group.first + c.args.group.count) c.requires.esi c.requires.blocks) in
    let long : length (take c.put_run-size.result c.put_run-size.new.run) ≡ c.put_run-size.result =
    length-take-le c.put_run-size.result c.put_run-size.new.run (omega (arith, c.put_run-size.ensures.bound, c.put_run-size.auto.run)) in
    has_room f t.every c.frame_offset.result (length (take c.put_run-size.result c.put_run-size.new.run)) _
    (omega (arith, c.frame_offset.ensures, long, c.put_run-size.ensures.size, offset_rising f t.every (c.args.place + sent) (length (pairs Rounds f)) end)) c.requires.long

pub write_all_at-requires-clause-fits : goal.write_all_at-requires-clause-fits
write_all_at-requires-clause-fits g c =
    let t = c.args.t.now in
    let f = t.fti in
    let sent : ℕ = length (run_of_round f c.args.esi c.args.group.first c.args.group.count) in
    let end : c.args.place + sent ≤ length (pairs Rounds f) =
    omega (arith, c.requires.place, run_place f c.args.esi c.args.group.first c.args.group.count, place_within f t.valid c.args.esi (c.args.group.first + c.args.group.count) c.requires.esi c.requires.blocks) in
    let long : length (take c.put_run-size.result c.put_run-size.new.run) ≡ c.put_run-size.result =
    length-take-le c.put_run-size.result c.put_run-size.new.run (omega (arith, c.put_run-size.ensures.bound, c.put_run-size.auto.run)) in
    let fits : offset_of f t.every (c.args.place + sent) < 2 ^ 50 = offset_fits f t.every (c.args.place + sent) t.valid (omega (arith, end, pairs_fit f t.valid)) in
    omega (arith, c.frame_offset.ensures, long, c.put_run-size.ensures.size, fits)

pub returns-clause-frames : goal.returns-clause-frames
returns-clause-frames g c = λ object made h.
    let t = c.args.t.now in
    let f = t.fti in
    let run = rw c.requires.place at (c.put_run-size.ensures.sent object made) in
    let at = c.frame_offset.ensures ∙ ap (offset_of f t.every) c.requires.place in
    then_ok c.write_all_at.result _ _
    (λ put. run_written object f t.tsi t.toi t.every t.valid c.args.esi c.args.group.first c.args.group.count c.requires.esi c.requires.blocks (take c.put_run-size.result c.put_run-size.new.run) run _ _
    (subst (λ (n : ℕ). Overwrites (g.W.Write.contents c.args.writer.now) (g.W.Write.contents c.write_all_at.new.writer) n (take c.put_run-size.result c.put_run-size.new.run)) at put) h)
    c.write_all_at.ensures.ok

pub returns-clause-long : goal.returns-clause-long
returns-clause-long g c =
    let t = c.args.t.now in
    let f = t.fti in
    let sent : ℕ = length (run_of_round f c.args.esi c.args.group.first c.args.group.count) in
    let end : c.args.place + sent ≤ length (pairs Rounds f) =
    omega (arith, c.requires.place, run_place f c.args.esi c.args.group.first c.args.group.count, place_within f t.valid c.args.esi (c.args.group.first + c.args.group.count) c.requires.esi c.requires.blocks) in
    let long : length (take c.put_run-size.result c.put_run-size.new.run) ≡ c.put_run-size.result =
    length-take-le c.put_run-size.result c.put_run-size.new.run (omega (arith, c.put_run-size.ensures.bound, c.put_run-size.auto.run)) in
    let room = has_room f t.every c.frame_offset.result (length (take c.put_run-size.result c.put_run-size.new.run)) (g.W.Write.contents c.args.writer.now)
    (omega (arith, c.frame_offset.ensures, long, c.put_run-size.ensures.size, offset_rising f t.every (c.args.place + sent) (length (pairs Rounds f)) end)) c.requires.long in
    then_ok c.write_all_at.result _ _ (λ put. as_long f t.every c.frame_offset.result (take c.put_run-size.result c.put_run-size.new.run) _ _ room put c.requires.long) c.write_all_at.ensures.ok

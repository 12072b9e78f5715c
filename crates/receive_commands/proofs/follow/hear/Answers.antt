use Rattle.std.proofs.Common.{rules, ◌≡◌, ◌≢◌, ◌∙◌, ◌+◌, ◌-◌, ◌^◌, Err, ap, arith, length, subst, sym}
use Rattle.host.specs.World.{World}
use Rattle.receiver.specs.Receiving.{ComesEarly}
use Rattle.receiver.specs.declared.receiver.FeedFault.TheVariants.{Failed}
use Rattle.receive_commands.specs.Listening.{IsFollowed, HasHeardSome}
use Rattle.receive_commands.proofs.Followed.{heard_one, refused, refused_by, nothing_against, some_heard, stays_some}
use Rattle.receive_commands.proofs.follow.hear.Goals as goal

pub returns-in-Err : goal.returns-in-Err
returns-in-Err g c = λ old before after is one short.
    rw c.in-Err.is at (c.prepare-followed.ensures.prepared old before after is one short)

pub returns-in_default-checked_add : goal.returns-in_default-checked_add
returns-in_default-checked_add g c = λ old before after is one short.
    let ready = rw c.in_default.is at (c.prepare-followed.ensures.prepared old before after is one short) in
    (before, some_heard c.args.request.now old (g.H.Host.world c.prepare-followed.new.host) before c.prepare-followed.result.0 ready)

pub returns-in-Ok : goal.returns-in-Ok
returns-in-Ok g c = λ old before after is one short.
    let ready = rw c.in_default.is at (c.prepare-followed.ensures.prepared old before after is one short) in
    let f = c.prepare-followed.result.0 in
    let d = c.args.datagram.now in
    let step = c.in-Some.ensures in
    let next : c.in-Some.read ≡ f.count + 1 = omega (arith, step) in
    heard_one c.args.request.now old (g.H.Host.world c.prepare-followed.new.host) before after d f ready one short c.in-Some.read next c.feed.new.self c.feed.ensures.sound
    c.feed.ensures.identity c.feed.ensures.output c.in-Ok.ensures.accepted (λ ds stands.
    let fed = c.in-Ok.is in
    let counted : length ds ≢ 2 ^ 64 - 1 = λ e. let full = (c.feed.ensures.full ds stands).1 e in cc in
    let timely : ¬ ComesEarly f.receiver.receiving.identity ds d = λ early. let told = (c.feed.ensures.early ds stands).1 (counted, early) in cc in
    nothing_against f.receiver.receiving.identity ds d (c.in-Ok.ensures.sound_answer ds stands) counted timely) c.in-Ok.progress
    (λ e. c.feed.ensures.complete (rw e at c.in-Ok.is)) (λ ds stands. c.in-Ok.ensures.progress ds stands)

pub returns-in-Err-Failed : goal.returns-in-Err-Failed
returns-in-Err-Failed g c = λ old before after is one short.
    let ready = rw c.in_default.is at (c.prepare-followed.ensures.prepared old before after is one short) in
    let f = c.prepare-followed.result.0 in
    let step = c.in-Some.ensures in
    let next : c.in-Some.read ≡ f.count + 1 = omega (arith, step) in (
      c.feed.ensures.failed (c.in-Err-Failed.is ∙ ap Err c.in-Err-Failed.field-0-is),
      before,
      stays_some c.args.request.now old (g.H.Host.world c.prepare-followed.new.host) before after c.args.datagram.now f ready one short c.in-Some.read next c.feed.new.self c.feed.ensures.sound
          c.feed.ensures.identity c.feed.ensures.output,
    )

pub returns-in-Ok-tell_refusal : goal.returns-in-Ok-tell_refusal
returns-in-Ok-tell_refusal g c = λ old before after is one short.
    let ready = rw c.in_default.is at (c.prepare-followed.ensures.prepared old before after is one short) in
    let f = c.prepare-followed.result.0 in
    let d = c.args.datagram.now in
    let refusal = c.in-Err-feed.refusal in
    let step = c.in-Some.ensures in
    let next : c.in-Some.read ≡ f.count + 1 = omega (arith, step) in
    let fed = c.in-Err-feed.is in
    let kept : refusal ≢ Failed = search rules in
    refused c.args.request.now old (g.H.Host.world c.prepare-followed.new.host) before after d f ready one short c.in-Some.read next c.feed.new.self c.feed.ensures.sound
    c.feed.ensures.identity c.feed.ensures.output refusal (λ ds stands. c.in-Err-feed.ensures.refused ds stands kept) (λ ds stands.
    let faulty = c.in-Err-feed.ensures.fault ds stands in
    refused_by f.receiver.receiving.identity ds d refusal c.in-Ok-tell_refusal.ensures.some kept
    (λ e. (c.feed.ensures.full ds stands).0 (fed ∙ ap Err e))
    (λ e. ((c.feed.ensures.early ds stands).0 (fed ∙ ap Err e)).1) (λ fault e. rw e at faulty))
    (g.H.Host.world c.tell_refusal.new.host) c.in-Ok-tell_refusal.said c.more_contradictions.result c.in-Ok-tell_refusal.ensures.said c.in-Ok-tell_refusal.ensures.before c.tell_refusal.ensures.files

pub returns-in-Err-tell_refusal : goal.returns-in-Err-tell_refusal
returns-in-Err-tell_refusal g c = λ old before after is one short.
    let ready = rw c.in_default.is at (c.prepare-followed.ensures.prepared old before after is one short) in
    let f = c.prepare-followed.result.0 in
    let step = c.in-Some.ensures in
    let next : c.in-Some.read ≡ f.count + 1 = omega (arith, step) in (
      before,
      subst (λ (world : World). IsFollowed c.args.request.now old world (record { receiver = c.feed.new.self; count = c.in-Some.read; said = f.said; contradictions = f.contradictions }) (HasHeardSome c.args.request.now before))
          (sym c.in-Err-tell_refusal.ensures.none)
          (stays_some c.args.request.now old (g.H.Host.world c.prepare-followed.new.host) before after c.args.datagram.now f ready one short c.in-Some.read next c.feed.new.self c.feed.ensures.sound
          c.feed.ensures.identity c.feed.ensures.output),
    )

use Rattle.std.proofs.Common.{◌∙◌, refl, subst, sym, Ok}
use Rattle.receiver.specs.declared.receiver.Progress.{Progress}
use Rattle.receive_commands.specs.Listening.{IsHearing}
use Rattle.receive_commands.proofs.Followed.{begun, cut}
use Rattle.receive_commands.proofs.follow.listen.Goals as goal

pub loop-datagram-init : goal.loop-datagram-init
loop-datagram-init g c = record {
  followed = begun c.args.request.now (g.H.Host.world c.args.host.now) (g.R.Read.remaining c.args.frames.now) c.requires.bytes c.new.result c.new.ensures.stands c.new.ensures.sound
      c.new.ensures.identity c.new.ensures.output;
  stays = refl;
}

pub returns-in-Ok-None : goal.returns-in-Ok-None
returns-in-Ok-None g c =
    c.end-ending.ensures c.args.request.now (g.H.Host.world c.args.host.now) (g.H.Host.world c.loop-datagram.host) (g.R.Read.remaining c.loop-datagram.frames)
    c.loop-datagram.invariant.followed (c.in-Ok-None.ensures.none c.in-Ok-None.field-0-is).0

pub returns-in-Err : goal.returns-in-Err
returns-in-Err g c =
    cut c.args.request.now (g.H.Host.world c.args.host.now) (g.H.Host.world c.loop-datagram.host) (g.R.Read.remaining c.loop-datagram.frames) (g.R.Read.remaining c.next_datagram.new.frames)
    (g.R.Read.failed c.next_datagram.new.frames) c.loop-datagram.followed c.loop-datagram.invariant.followed c.in-Err.fault c.in-Err.ensures.fault
    (λ e. c.requires.fails (sym c.loop-datagram.invariant.stays ∙ c.in-Err.ensures.unsound e))

pub returns-in-Ok-Complete : goal.returns-in-Ok-Complete
returns-in-Ok-Complete g c =
    let one = rw c.in-Ok-Some.field-0-is at c.in-Ok-Some.ensures.some in
    let short = rw c.in-Ok-Some.field-0-is at c.in-Ok-Some.ensures.short in
    let old = g.H.Host.world c.args.host.now in
    subst
    (λ (p : Progress). IsHearing c.args.request.now old (g.H.Host.world c.hear-next.new.host) (g.R.Read.remaining c.next_datagram.new.frames) c.hear-next.result.0 (Ok p))
    (rw c.in-Ok-Complete.is at c.in-Ok-Complete.field-0-is) (rw c.in-Ok-Complete.is at
    (c.hear-next.ensures (g.H.Host.world c.args.host.now) (g.R.Read.remaining c.loop-datagram.frames) (g.R.Read.remaining c.next_datagram.new.frames) c.loop-datagram.invariant.followed
    (rw c.as_slice.ensures.value one) (rw c.as_slice.ensures.value short)))

pub returns-in-Err-heard : goal.returns-in-Err-heard
returns-in-Err-heard g c =
    let one = rw c.in-Ok-Some.field-0-is at c.in-Ok-Some.ensures.some in
    let short = rw c.in-Ok-Some.field-0-is at c.in-Ok-Some.ensures.short in
    rw c.in-Err-heard.is at
    (c.hear-next.ensures (g.H.Host.world c.args.host.now) (g.R.Read.remaining c.loop-datagram.frames) (g.R.Read.remaining c.next_datagram.new.frames) c.loop-datagram.invariant.followed
    (rw c.as_slice.ensures.value one) (rw c.as_slice.ensures.value short))

pub loop-datagram-preserved : goal.loop-datagram-preserved
loop-datagram-preserved g c =
    let one = rw c.in-Ok-Some.field-0-is at c.in-Ok-Some.ensures.some in
    let short = rw c.in-Ok-Some.field-0-is at c.in-Ok-Some.ensures.short in
    let old = g.H.Host.world c.args.host.now in
    record {
      followed = subst
          (λ (p : Progress). IsHearing c.args.request.now old (g.H.Host.world c.hear-next.new.host) (g.R.Read.remaining c.next_datagram.new.frames) c.hear-next.result.0 (Ok p))
          (rw c.in-Ok-More.is at c.in-Ok-More.field-0-is) (rw c.in-Ok-More.is at
          (c.hear-next.ensures (g.H.Host.world c.args.host.now) (g.R.Read.remaining c.loop-datagram.frames) (g.R.Read.remaining c.next_datagram.new.frames) c.loop-datagram.invariant.followed
          (rw c.as_slice.ensures.value one) (rw c.as_slice.ensures.value short)));
      stays = c.next_datagram.ensures.stays ∙ c.loop-datagram.invariant.stays;
    }

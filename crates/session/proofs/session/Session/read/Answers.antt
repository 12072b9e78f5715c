use Rattle.std.proofs.Common.{◌∙◌}
use Rattle.session.proofs.Copies.{consumes_more}
use Rattle.session.proofs.Sessions.{short_push}
use Rattle.session.proofs.session.Session.read.Goals as goal

pub loop-session-preserved : goal.loop-session-preserved
loop-session-preserved g c =
    let ds = c.loop-session.session in
    let d = c.in-Some.datagram.items in
    let some = rw c.in-Some.is at c.in_ok-datagram.ensures.some in
    let short = rw c.in-Some.is at c.in_ok-datagram.ensures.short in
    rw c.in-Ok.ensures.ok (record {
      bytes = consumes_more _ _ _ ds d c.loop-session.invariant.bytes some;
      short = short_push ds d c.loop-session.invariant.short short;
      stays = c.read_next.ensures.stays ∙ c.loop-session.invariant.stays;
    })

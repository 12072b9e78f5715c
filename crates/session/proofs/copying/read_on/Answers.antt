use Rattle.std.proofs.Common.{◌++◌, ◌∷◌, [], ◌∙◌}
use Rattle.session.proofs.Copies.{consumes_more}
use Rattle.session.proofs.Sessions.{short_push}
use Rattle.session.proofs.copying.read_on.Goals as goal

pub loop-datagram-preserved : goal.loop-datagram-preserved
loop-datagram-preserved g c =
    let ds = c.loop-datagram.invariant.read.0 in
    let d = c.in-Some._datagram.items in
    let some = rw c.in-Some.is at c.in_ok-_datagram.ensures.some in
    let short = rw c.in-Some.is at c.in_ok-_datagram.ensures.short in
    record {
      read = (
        ds ++ d ∷ [],
        consumes_more _ _ _ ds d c.loop-datagram.invariant.read.1 some,
        short_push ds d c.loop-datagram.invariant.read.2 short,
      );
      stays = c.read_next.ensures.stays ∙ c.loop-datagram.invariant.stays;
    }

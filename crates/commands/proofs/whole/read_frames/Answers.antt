use Rattle.std.proofs.Common.{◌∙◌, ◌++◌, ◌∷◌, []}
use Rattle.session.proofs.Copies.{consumes_more}
use Rattle.session.proofs.Sessions.{short_push}
use Rattle.commands.proofs.HeldFrames.{one_more_held}
use Rattle.commands.proofs.whole.read_frames.Goals as goal

pub loop-frames-preserved : goal.loop-frames-preserved
loop-frames-preserved g c =
    let read = c.loop-frames.invariant.read in
    let d = c.in-Some.datagram.items in
    let some = rw c.in-Some.is at c.in_ok-datagram.ensures.some in
    let short = rw c.in-Some.is at c.in_ok-datagram.ensures.short in
    record {
      read = (
        read.0 ++ d ∷ [],
        consumes_more _ _ _ read.0 d read.1 some,
        short_push read.0 d read.2 short,
        one_more_held _ _ read.0 d read.3 (rw c.as_slice.ensures.value at c.in-Ok.ensures.ok),
      );
      stays = c.read_next_into.ensures.stays ∙ c.loop-frames.invariant.stays;
    }

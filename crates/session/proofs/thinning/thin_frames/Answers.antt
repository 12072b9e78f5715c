use Rattle.std.proofs.Common.{false, ◌∙◌, sym}
use Rattle.session.proofs.Thinned.{begins, some, thinned, without}
use Rattle.session.proofs.thinning.thin_frames.Goals as goal

pub returns-in_default-clause-some : goal.returns-in_default-clause-some
returns-in_default-clause-some g c =
    some c.args.ranges.now _ _ _ _ _ _ _ _ (begins c.args.ranges.now (g.R.Read.remaining c.args.reader.now) (g.W.Write.contents c.args.writer.now) (g.W.Write.room c.args.writer.now))

pub returns-in-Some-clause-fault : goal.returns-in-Some-clause-fault
returns-in-Some-clause-fault g c =
    without c.args.ranges.now _ _ _ _ _ _ _ _ (c.in_ok-counts.ensures.copied c.args.ranges.now (rw c.as_slice.ensures.value c.in-Ok.ensures.same)) c.in-Some.place false false 0 false c.in_ok-counts.ensures.end (sym c.unhad.ensures ∙ c.in-Some.is)

pub returns-in-Some-clause-some : goal.returns-in-Some-clause-some
returns-in-Some-clause-some g c =
    some c.args.ranges.now _ _ _ _ _ _ _ _ (c.in_ok-counts.ensures.copied c.args.ranges.now (rw c.as_slice.ensures.value c.in-Ok.ensures.same))

pub returns-clause-thinned : goal.returns-clause-thinned
returns-clause-thinned g c =
    thinned c.args.ranges.now _ _ _ _ _ _ _ _ (c.in_ok-counts.ensures.copied c.args.ranges.now (rw c.as_slice.ensures.value c.in-Ok.ensures.same)) c.in_ok-counts.ensures.end (sym c.unhad.ensures ∙ c.in-None.is)

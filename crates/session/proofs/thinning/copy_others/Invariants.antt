use Rattle.std.proofs.Common.{◌≡◌, ◌≤◌, List}
use Rattle.session.specs.Copying.{IsWritten}
use Rattle.session.specs.RangeSteps.{HaveBegun, HaveSamePlaces}
use Rattle.session.specs.ThinningSteps.{HasCopied}
use Rattle.session.specs.declared.range.PlaceRange.{PlaceRange}
use Rattle.session.proofs.thinning.copy_others.Given as goal

abbrev pub invariant-loop-datagram : goal.invariant-loop-datagram
invariant-loop-datagram g l = record {
  copied : (ranges : List PlaceRange) → HaveSamePlaces ranges l.fn.lost → HasCopied ranges (g.R.Read.remaining l.initial.reader) (g.R.Read.remaining l.reader) (IsWritten (g.W.Write.contents l.initial.writer) (g.W.Write.contents l.writer) (g.W.Write.room l.initial.writer) (g.W.Write.room l.writer)) l.counts.read l.counts.written;
  few : l.counts.written ≤ l.counts.read;
  stays : g.R.Read.sound l.reader ≡ g.R.Read.sound l.initial.reader;
  begun : HaveBegun l.lost l.begun.count l.begun.last l.counts.read;
}

abbrev pub decreases-loop-datagram : goal.decreases-loop-datagram
decreases-loop-datagram g l = g.R.Read.left l.reader

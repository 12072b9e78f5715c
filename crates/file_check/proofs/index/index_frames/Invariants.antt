use Rattle.std.proofs.Common.{◌≡◌, length}
use Rattle.session.proofs.Passing.{Behind}
use Rattle.cert.specs.Tallying.{AreTallied, nothing, tallied_of}
use Rattle.file_check.specs.Indexed.{StandAt, end_of, extents_of}
use Rattle.file_check.proofs.index.index_frames.Given as goal

abbrev pub invariant-loop-datagram : goal.invariant-loop-datagram
invariant-loop-datagram g l = record {
  read :
      (behind : Behind (g.R.Read.remaining l.initial.reader) (g.R.Read.remaining l.reader) l.position.offset l.position.place)
      × AreTallied nothing l.fn.fti (tallied_of l.index.tally) behind.read
      × (length (extents_of l.index.extents) ≡ length behind.read)
      × StandAt (g.R.Read.remaining l.initial.reader) (extents_of l.index.extents) behind.read;
  end : end_of l.index.extents ≡ l.position.offset;
  identity : l.index.tally.scope.identity ≡ l.fn.identity;
  stays : g.R.Read.sound l.reader ≡ g.R.Read.sound l.initial.reader;
}

abbrev pub decreases-loop-datagram : goal.decreases-loop-datagram
decreases-loop-datagram g l = g.R.Read.left l.reader

use Rattle.std.proofs.Common.{◌≡◌, ℕ, List, Some, None}
use Rattle.session.specs.Frames.{IsFramed}
use Rattle.reception.specs.Reception.{asked}
use Rattle.reception.specs.Walks.{scope_in}
use Rattle.reception.proofs.Heard.{Heard}
use Rattle.file_decoder.proofs.FirstCarrier.{FirstSoFar}
use Rattle.session.proofs.Passing.{Behind}
use Rattle.file_decoder.proofs.indexing.first_fti.Given as goal

abbrev pub invariant-loop-datagram : goal.invariant-loop-datagram
invariant-loop-datagram g l = record {
  offset : ℕ;
  behind : Behind (g.R.Read.remaining l.initial.reader) (g.R.Read.remaining l.reader) offset l.place;
  stays : g.R.Read.sound l.reader ≡ g.R.Read.sound l.initial.reader;
  heard : (x : List ℕ) (ds : List (List ℕ)) → g.R.Read.remaining l.initial.reader ≡ Some x → IsFramed ds x → Heard l.identity ds l.place (asked l.identity);
  faults : (x : List ℕ) (ds : List (List ℕ)) → g.R.Read.remaining l.initial.reader ≡ Some x → IsFramed ds x → (scope_in l.identity ds).fti ≡ None → FirstSoFar l.identity ds l.place l.first;
}

abbrev pub decreases-loop-datagram : goal.decreases-loop-datagram
decreases-loop-datagram g l = g.R.Read.left l.reader

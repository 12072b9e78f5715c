use Rattle.std.proofs.Common.{◌≡◌, ℕ, List, None}
use Rattle.std.specs.Io.KnownBytes.{Consumes}
use Rattle.std.specs.Cow.{cow_slice_items}
use Rattle.session.specs.Frames.{frames, AreDatagrams}
use Rattle.cert.specs.DatagramWalk.{HasWalked}
use Rattle.cert.proofs.checker.Checker.feed_all.Given as goal

abbrev pub invariant-loop-datagram : goal.invariant-loop-datagram
invariant-loop-datagram g l = record {
  identity : l.self.tally.scope.identity ≡ l.initial.self.tally.scope.identity;
  certificate : l.self.symbols ≡ l.initial.self.symbols;
  object : cow_slice_items l.self.object ≡ cow_slice_items l.initial.self.object;
  going : l.self.ended ≡ None;
  read :
      (datagrams : List (List ℕ)) × AreDatagrams datagrams × HasWalked l.self datagrams
      × Consumes (g.R.Read.remaining l.initial.reader) (g.R.Read.remaining l.reader) (frames datagrams);
  stays : g.R.Read.sound l.reader ≡ g.R.Read.sound l.initial.reader;
}

abbrev pub decreases-loop-datagram : goal.decreases-loop-datagram
decreases-loop-datagram g l = g.R.Read.left l.reader

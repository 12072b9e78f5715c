use Rattle.std.proofs.Common.{◌≡◌}
use Rattle.send_commands.specs.Salvaging.{HasCopied}
use Rattle.send_commands.proofs.salvage.copy_front.Given as goal

abbrev pub invariant-loop-datagram : goal.invariant-loop-datagram
invariant-loop-datagram g l = record {
  copied : HasCopied (g.R.Read.remaining l.initial.reader) (g.R.Read.remaining l.reader)
      (g.W.Write.contents l.initial.writer) (g.W.Write.contents l.writer) l.count;
  stays : g.R.Read.sound l.reader ≡ g.R.Read.sound l.initial.reader;
}

abbrev pub decreases-loop-datagram : goal.decreases-loop-datagram
decreases-loop-datagram g l = g.R.Read.left l.reader

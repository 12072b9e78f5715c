use Rattle.std.proofs.Common.{◌≡◌}
use Rattle.receive_commands.specs.Listening.{IsFollowed, IsShort}
use Rattle.receive_commands.proofs.follow.listen.Given as goal

abbrev pub invariant-loop-datagram : goal.invariant-loop-datagram
invariant-loop-datagram g l = record {
  followed : IsFollowed l.initial.request (g.H.Host.world l.initial.host) (g.H.Host.world l.host) l.followed (IsShort l.initial.request (g.R.Read.remaining l.frames) l.followed);
  stays : g.R.Read.sound l.frames ≡ g.R.Read.sound l.initial.frames;
}

abbrev pub decreases-loop-datagram : goal.decreases-loop-datagram
decreases-loop-datagram g l = g.R.Read.left l.frames

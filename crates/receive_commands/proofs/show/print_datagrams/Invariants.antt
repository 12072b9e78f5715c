use Rattle.std.proofs.Common.{◌≡◌, ◌≤◌, List, length}
use Rattle.alc.specs.Reading.{Reading}
use Rattle.host.specs.World.{KeepsFiles}
use Rattle.commands.specs.Commands.{shown_status}
use Rattle.receive_commands.specs.Showing.{Shows}
use Rattle.receive_commands.proofs.show.print_datagrams.Given as goal

abbrev pub invariant-loop-datagram : goal.invariant-loop-datagram
invariant-loop-datagram g l = record {
  shown :
      (readings : List Reading)
      × Shows (g.R.Read.remaining l.initial.frames) (g.R.Read.remaining l.frames) readings (g.H.Host.world l.initial.host) (g.H.Host.world l.host)
      × (l.place ≡ length readings) × (l.status ≡ shown_status readings);
  stays : g.R.Read.sound l.frames ≡ g.R.Read.sound l.initial.frames;
  files : KeepsFiles (g.H.Host.world l.initial.host) (g.H.Host.world l.host);
  small : l.status ≤ 3;
}

abbrev pub decreases-loop-datagram : goal.decreases-loop-datagram
decreases-loop-datagram g l = g.R.Read.left l.frames

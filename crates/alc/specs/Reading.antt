-- A datagram read: its packet, or why it is none.
use Rattle.std.specs.Prelude.{List, ℕ, Result, Ok, Err}
use Rattle.alc.specs.Packet.{Packet, IsPacket}
use Rattle.alc.specs.PacketFault.{IsPacketFault}
use Rattle.alc.specs.declared.fault.PacketFault.{PacketFault}

abbrev pub Reading : Type 0
Reading = Result Packet PacketFault

-- the datagram is this packet, or isn't one for this reason
abbrev pub Reads : List ℕ → Reading → Type 0
Reads d (Ok p) = IsPacket d p
Reads d (Err r) = IsPacketFault d r

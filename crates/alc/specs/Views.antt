-- The packet that the code reads, as a value, and so its answer as a reading; and the FTI that is
-- lent to be written.
use Rattle.std.specs.Prelude.{Option, Result, Ok, Err, option_map}
use Rattle.std.specs.Borrow.{Bor}
use Rattle.partition.specs.Fti.{Fti}
use Rattle.alc.specs.Packet.{Packet as PacketValue}
use Rattle.alc.specs.Reading.{Reading}
use Rattle.alc.specs.declared.reading.Packet.{Packet}
use Rattle.alc.specs.declared.fault.PacketFault.{PacketFault}

abbrev pub packet_of : Packet → PacketValue
packet_of p =
    record {
      tsi = p.tsi;
      toi = p.toi;
      fti = p.fti;
      block = p.sbn;
      esi = p.esi;
      bytes = p.symbol.now;
    }

abbrev pub reading_of : Result Packet PacketFault → Reading
reading_of (Ok p) = Ok (packet_of p)
reading_of (Err r) = Err r

abbrev pub lent : Option (Bor Fti) → Option Fti
lent fti = option_map (λ f. f.now) fti

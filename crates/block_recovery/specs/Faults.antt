-- The faults of datagrams, as values.
use Rattle.reception.specs.Answer as value
use Rattle.reception.specs.Answer.{Clashes}
use Rattle.reception.specs.Reception as reception
use Rattle.reception.specs.Reception.{Faulty, Judged, NoPacket}
use Rattle.block_recovery.specs.declared.fault.DecodeFault.{DecodeFault}
use Rattle.block_recovery.specs.declared.fault.DecodeFault.TheVariants.{Packet, OtherFti}
use Rattle.block_recovery.specs.declared.fault.DecodeFault.TheVariants.{SymbolLength}
use Rattle.block_recovery.specs.declared.fault.DecodeFault.TheVariants.{Range, Clash, NotCode}

abbrev pub fault_value : DecodeFault → value.Answer
fault_value (Packet i r) = value.Fault i (Faulty (NoPacket r))
fault_value (OtherFti i) = value.Fault i (Faulty reception.OtherFti)
fault_value (SymbolLength i) = value.Fault i (Faulty reception.SymbolLength)
fault_value (Range i) = value.Fault i (Faulty reception.Range)
fault_value (Clash i) = value.Fault i (Judged Clashes)
fault_value (NotCode b) = value.NotCode b

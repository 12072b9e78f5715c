use Rattle.std.proofs.Common.{refl, ap}
use Rattle.reception.specs.Reception.{NoPacket}
use Rattle.reception.specs.Step.{looked}
use Rattle.block_recovery.proofs.received.fault_at.Goals as goal

pub returns-in-Err-clause-fault : goal.returns-in-Err-clause-fault
returns-in-Err-clause-fault c = (NoPacket c.in-Err.fault, ap looked c.in-Err.is, refl)

use Rattle.block_recovery.specs.Received.{bytes_at}
use Rattle.block_recovery.specs.Recoveries.{IsKeptOf}
use Rattle.decoder.proofs.ObjectSoFar.{SoFar}
use Rattle.decoder.proofs.decoding.decode_all.Given as goal

abbrev pub invariant-loop-b : goal.invariant-loop-b
invariant-loop-b l = record {
  object : SoFar l.received.fti (bytes_at l.received.symbols) l.b l.object.items;
  kept : IsKeptOf l.codes l.kept;
}

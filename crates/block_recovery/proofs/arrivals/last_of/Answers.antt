use Rattle.block_recovery.proofs.Arrived.{found_here, listed_here, found_before}
use Rattle.block_recovery.proofs.arrivals.last_of.Goals as goal
use Rattle.block_recovery.proofs.arrivals.last_of.Goals.{then-arrival-esi, else-arrival-esi}

pub loop-arrival-preserved : goal.loop-arrival-preserved
loop-arrival-preserved g c =
    let xs = c.args.arrivals.now in
    let i = c.loop-arrival.arrival-index in
    let a = c.arrival-item.result in
    elim c.if-arrival-esi.branch [
      | then-arrival-esi w ↦ rw w.found-is (record {
        at = found_here xs i a c.loop-arrival-test.true c.arrival-item.is c.args.esi w.if-arrival-esi.true;
        listed = listed_here xs i a c.loop-arrival-test.true c.arrival-item.is c.args.esi w.if-arrival-esi.true;
      })
      | else-arrival-esi w ↦ rw w.found-is (record {
        at = λ held. found_before xs i a c.loop-arrival-test.true c.arrival-item.is c.args.esi w.if-arrival-esi.false held c.loop-arrival.found (c.loop-arrival.invariant.at held);
        listed = c.loop-arrival.invariant.listed;
      })
    ]

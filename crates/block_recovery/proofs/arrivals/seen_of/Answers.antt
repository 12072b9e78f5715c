use Rattle.std.proofs.Common.{◌∙◌, refl, false, ◌<◌, length, arith}
use Rattle.std.proofs.lemmas.List.{get_or-replicate, length-set}
use Rattle.block_recovery.proofs.Arrived.{marked}
use Rattle.block_recovery.proofs.arrivals.seen_of.Goals as goal

pub loop-arrival-init : goal.loop-arrival-init
loop-arrival-init g c = record { len = refl; at = λ held j lj. get_or-replicate 256 j false false lj }

pub loop-arrival-preserved : goal.loop-arrival-preserved
loop-arrival-preserved g c =
    let seen = c.loop-arrival.seen in
    let inside : c.from.result < length c.loop-arrival.seen = omega (arith, c.loop-arrival.invariant.len) in
    record {
      len = length-set seen c.from.result _ ∙ c.loop-arrival.invariant.len;
      at = λ held j lj.
          marked held c.args.arrivals.now c.loop-arrival.arrival-index c.arrival-item.result c.loop-arrival-test.true c.arrival-item.is c.from.result c.from.ensures j seen inside
          (c.loop-arrival.invariant.at held j lj);
    }

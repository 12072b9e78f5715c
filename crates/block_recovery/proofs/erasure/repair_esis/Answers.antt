use Rattle.std.proofs.Common.{arith}
use Rattle.std.specs.Prelude.{is_some}
use Rattle.block_recovery.specs.Blocks.{bytes_of_esi}
use Rattle.block_recovery.proofs.Those.{those_more, those_same, came_is}
use Rattle.block_recovery.proofs.erasure.repair_esis.Goals as goal
use Rattle.block_recovery.proofs.erasure.repair_esis.Goals.{then-is_some+in_ok-push, else-is_some}

pub loop-j-preserved : goal.loop-j-preserved
loop-j-preserved c = elim c.if-is_some.branch [
  | then-is_some+in_ok-push w ↦
      (rw (w.repair-is, w.in_ok-push.ensures.items)
      (those_more (λ j. is_some (bytes_of_esi c.args.received.now j)) c.args.k c.loop-j.j c.loop-j.repair.items c.loop-j.invariant (omega arith)
      (rw (came_is _, ← c.is_some.ensures) w.if-is_some.true)))
  | else-is_some w ↦
      (rw w.repair-is
      (those_same (λ j. is_some (bytes_of_esi c.args.received.now j)) c.args.k c.loop-j.j c.loop-j.repair.items c.loop-j.invariant
      (rw (came_is _, ← c.is_some.ensures) w.if-is_some.false)))
]

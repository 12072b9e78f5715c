use Rattle.std.proofs.Common.{refl, arith}
use Rattle.std.specs.Prelude.{not, is_some}
use Rattle.block_recovery.specs.Blocks.{bytes_of_esi}
use Rattle.block_recovery.proofs.Those.{those_more, those_same, came_is}
use Rattle.block_recovery.proofs.erasure.missing_esis.Goals as goal
use Rattle.block_recovery.proofs.erasure.missing_esis.Goals.{then-is_none+in_ok-push, else-is_none}

pub loop-i-preserved : goal.loop-i-preserved
loop-i-preserved c = elim c.if-is_none.branch [
  | then-is_none+in_ok-push w ↦
      (rw (w.missing-is, w.in_ok-push.ensures.items)
      (those_more (λ j. not (is_some (bytes_of_esi c.args.received.now j))) 0 c.loop-i.i c.loop-i.missing.items c.loop-i.invariant (omega arith)
      (rw (came_is _, c.is_none.ensures, w.if-is_none.true) refl)))
  | else-is_none w ↦
      (rw w.missing-is
      (those_same (λ j. not (is_some (bytes_of_esi c.args.received.now j))) 0 c.loop-i.i c.loop-i.missing.items c.loop-i.invariant
      (rw (came_is _, c.is_none.ensures, w.if-is_none.false) refl)))
]

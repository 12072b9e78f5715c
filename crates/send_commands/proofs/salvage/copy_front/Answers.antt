use Rattle.std.proofs.Common.{◌∙◌, ◌≡◌, ◌+◌, ℕ, arith, subst, sym}
use Rattle.std.proofs.lemmas.Result.{IfOk-weaker}
use Rattle.send_commands.specs.Salvaging.{HasSalvaged}
use Rattle.send_commands.proofs.Salvaged.{one_more, broken}
use Rattle.send_commands.proofs.salvage.copy_front.Goals as goal

pub returns-in-Err-clause-salvaged : goal.returns-in-Err-clause-salvaged
returns-in-Err-clause-salvaged g c =
    let a = g.R.Read.remaining c.args.reader.now in
    let b = g.W.Write.contents c.args.writer.now in
    let m = g.W.Write.contents c.loop-datagram.writer in
    rw c.stopped.ensures.status
    (IfOk-weaker c.stopped.result.written _ _
    (λ n is. subst (λ (k : ℕ). HasSalvaged a b m 1 k) (sym is.0)
    (broken a _ b m c.loop-datagram.count c.loop-datagram.invariant.copied c.in-Err.fault _ _
    c.in-Err.ensures.fault is.1))
    c.stopped.ensures.count)

pub loop-datagram-preserved : goal.loop-datagram-preserved
loop-datagram-preserved g c =
    let next = c.in-Some.ensures in
    let up : c.in-Some.more ≡ c.loop-datagram.count + 1 = omega (arith, next) in
    record {
      copied = one_more _ _ _ _ _ c.loop-datagram.invariant.copied _ _ c.in-Ok-Some.datagram.items _
          (rw c.in-Ok-Some.field-0-is at c.in-Ok-Some.ensures.some)
          (rw c.in-Ok-Some.field-0-is at c.in-Ok-Some.ensures.short)
          (rw c.as_slice.ensures.value at c.in-Ok.ensures.ok) up;
      stays = c.read_next.ensures.stays ∙ c.loop-datagram.invariant.stays;
    }

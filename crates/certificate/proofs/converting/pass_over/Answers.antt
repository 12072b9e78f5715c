use Rattle.std.proofs.Common.{◌≡◌, ◌∙◌, length, take, arith, length-take-le}
use Rattle.std.proofs.lemmas.Grind.{common_steps}
use Rattle.certificate.proofs.BlockByBlock.{piece_passed}
use Rattle.certificate.proofs.converting.pass_over.Goals as goal

pub loop-got-preserved : goal.loop-got-preserved
loop-got-preserved g c =
    let piece = take c.in-Ok.got c.fill.new.buf in
    let long : length (take c.in-Ok.got c.fill.new.buf) ≡ c.in-Ok.got = length-take-le c.in-Ok.got c.fill.new.buf (omega (arith, c.in-Ok.ensures.bound, c.fill.auto.buf)) in
    record {
      passes =
          rw long at
          (piece_passed c.args.count c.loop-got.left _ _ _ piece c.loop-got.invariant.passes c.are_bytes.ensures c.in-Ok.ensures.bytes (omega (arith, long, c.if-got-left.false)));
      stays = c.in-Ok.ensures.stays ∙ c.loop-got.invariant.stays;
    }

pub returns-then-got-left-clause-size : goal.returns-then-got-left-clause-size
returns-then-got-left-clause-size g c = grind (arith, common_steps) steps 2000000

pub returns-then-left-eq0-clause-ok : goal.returns-then-left-eq0-clause-ok
returns-then-left-eq0-clause-ok g c = grind (arith, common_steps) steps 2000000

pub returns-else-left-eq0-clause-size : goal.returns-else-left-eq0-clause-size
returns-else-left-eq0-clause-size g c = grind (arith, common_steps) steps 2000000

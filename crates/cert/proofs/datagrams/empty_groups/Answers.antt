use Rattle.std.proofs.Common.{◌≡◌, ◌<◌, ℕ, [], List, get_or, sym, subst, arith}
use Rattle.std.proofs.lemmas.Grind.{common_steps}
use Rattle.std.proofs.lemmas.Result.{IfOk-weaker}
use Rattle.losses.specs.Groups.{Group}
use Rattle.partition.specs.Fti.{block_count, source_count}
use Rattle.cert.specs.Scan.{AreGroupsOf}
use Rattle.cert.proofs.Bridge.{are_empty}
use Rattle.cert.proofs.datagrams.empty_groups.Goals as goal

pub loop-block-preserved : goal.loop-block-preserved
loop-block-preserved c = grind (arith, common_steps) steps 2000000

pub returns : goal.returns
returns c =
    let size = c.loop-block.invariant.size in
    let end = c.loop-block-test.false in
    let up = c.loop-block.auto.block-end in
    let count = c.block_count-block-end.ensures.value in
    let needs : (b : ℕ) → b < block_count c.args.fti.now → get_or c.loop-block.needs.items b 0 ≡ source_count c.args.fti.now b = λ b l. c.loop-block.invariant.needs b (omega (arith, l, end, count)) in
    IfOk-weaker c.new.result _ _
    (λ groups e. subst (λ (gs : List Group). AreGroupsOf c.args.fti.now [] gs) (sym e) (are_empty c.args.fti.now c.loop-block.needs.items (omega (arith, size, end, up, count)) needs))
    c.new.ensures

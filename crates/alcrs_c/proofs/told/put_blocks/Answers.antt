use Rattle.std.proofs.Common.{◌≡◌, map, length, sym, ap, ◌∙◌, arith}
use Rattle.std.proofs.lemmas.List.{get_or-map, length-map}
use Rattle.alcrs_c.specs.Told.{told_block}
use Rattle.alcrs_c.proofs.InFront.{one_more, all_put}
use Rattle.alcrs_c.proofs.told.put_blocks.Goals as goal

pub loop-i-preserved : goal.loop-i-preserved
loop-i-preserved c =
    let blocks = c.args.report.now.blocks.items in
    let size : length (map told_block blocks) ≡ length blocks = length-map blocks told_block in
    let block = c.index.result.now in
    let inside = c.loop-i-test.true in
    rw c.loop-i.invariant
    (one_more (map told_block blocks) c.args.blocks.now c.loop-i.i (told_block block) (grind (arith, size, inside)) (grind (arith, inside))
    (ap told_block c.index.ensures ∙ sym (get_or-map told_block blocks c.loop-i.i block (told_block block) (grind (arith, inside)))))

pub returns : goal.returns
returns c =
    let blocks = c.args.report.now.blocks.items in
    let size : length (map told_block blocks) ≡ length blocks = length-map blocks told_block in
    c.loop-i.invariant ∙ all_put (map told_block blocks) c.args.blocks.now c.loop-i.i (grind (arith, size))

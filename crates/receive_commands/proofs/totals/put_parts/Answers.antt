use Rattle.std.proofs.Common.{◌∙◌, ◌++◌, ◌∷◌, [], ℕ, List, take, flat_map, ap, sym}
use Rattle.std.proofs.lemmas.List.{flat_map_more, take_more}
use Rattle.inventory.specs.declared.part.Part.{Part}
use Rattle.commands.specs.Totals.{part_lines}
use Rattle.receive_commands.proofs.totals.put_parts.Goals as goal

pub loop-part-preserved : goal.loop-part-preserved
loop-part-preserved c =
    let part : Part = c.part-item.result in
    let before : List Part = take c.loop-part.part-index c.args.parts.now in
    c.in_ok-put_part.ensures
    ∙ ap (λ (t : List ℕ). t ++ part_lines part) c.loop-part.invariant
    ∙ flat_map_more part_lines c.args.lines.now before part
    ∙ ap (λ (ps : List Part). c.args.lines.now ++ flat_map part_lines ps)
    (ap (λ (p : Part). before ++ p ∷ []) c.part-item.is ∙ sym (take_more c.args.parts.now c.loop-part.part-index part c.loop-part-test.true))

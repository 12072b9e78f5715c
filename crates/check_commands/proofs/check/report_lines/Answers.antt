use Rattle.std.proofs.Common.{◌++◌, ◌∙◌, ◌<◌, List, ℕ, length, take, ap, sym, codes, arith, append_assoc}
use Rattle.commands.specs.Lines.{line_of, numbered, block_text}
use Rattle.commands.proofs.Numbered.{numbered_take}
use Rattle.check_commands.proofs.check.report_lines.Goals as goal

pub loop-block-preserved : goal.loop-block-preserved
loop-block-preserved c =
    let items = c.deref-counts-items.result.now in
    let n = c.loop-block.block in
    let yes = line_of (codes "yes") in
    let l : n < length items = let t = c.loop-block-test.true in omega (arith, t) in
    c.in_ok-put_line.ensures ∙ ap (λ (t : List ℕ). t ++ line_of c.in_ok-block_line.field-0) c.loop-block.invariant
    ∙ append_assoc yes (numbered (block_text (codes "block")) 0 (take n items)) (line_of c.in_ok-block_line.field-0)
    ∙ ap (λ (t : List ℕ). yes ++ t) (ap (λ (t : List ℕ). numbered (block_text (codes "block")) 0 (take n items) ++ line_of t) c.in_ok-block_line.ensures ∙ sym (numbered_take (block_text (codes "block")) items n _ l))

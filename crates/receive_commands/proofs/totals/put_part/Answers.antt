use Rattle.std.proofs.Common.{◌∙◌, ◌++◌, ℕ, List, ap, append_assoc}
use Rattle.commands.specs.Lines.{line_of}
use Rattle.commands.specs.Totals.{packets_text, fti_lines, weakest_lines}
use Rattle.commands.proofs.Gains.{gains_more}
use Rattle.receive_commands.proofs.totals.put_part.Goals as goal

pub returns : goal.returns
returns c =
    let part = c.args.part.now in
    let first = c.in_ok-put_line.ensures ∙ ap (λ (t : List ℕ). c.args.lines.now ++ line_of t) c.in_ok-packets_line.ensures in
    gains_more c.put_weakest.result c.args.lines.now c.put_ftis.new.lines c.put_weakest.new.lines (line_of (packets_text part) ++ fti_lines part.identity part.ftis.items) (weakest_lines part.identity part.weakest)
    (rw c.as_slice.ensures.value at c.in_ok-put_ftis.ensures
    ∙ ap (λ (t : List ℕ). t ++ fti_lines part.identity part.ftis.items) first ∙ append_assoc c.args.lines.now (line_of (packets_text part)) (fti_lines part.identity part.ftis.items)) c.put_weakest.ensures

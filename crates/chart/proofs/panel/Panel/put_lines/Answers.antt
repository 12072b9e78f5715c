use Rattle.std.proofs.Common.{◌≡◌, ◌<◌, ◌*◌, ◌++◌, ℕ, codes, subst, arith}
use Rattle.chart.specs.Texts.{Puts, line_text, lines_text}
use Rattle.chart.proofs.Lines.{texts_from, puts_line, skips_line}
use Rattle.chart.proofs.Putting.{Leaves, leaves_all, leaves_less, leaves_none}
use Rattle.chart.proofs.panel.Panel.put_lines.Goals as goal
use Rattle.chart.proofs.panel.Panel.put_lines.Goals.{in-Some, in_default}

pub loop-line-init : goal.loop-line-init
unfolding texts_from
loop-line-init c = leaves_less _ _ _ _ _ _ (leaves_all _ _) c.put.ensures

pub loop-line-preserved : goal.loop-line-preserved
loop-line-preserved c = elim c.match-value_of.branch [
  | in-Some w ↦
      let text = line_text c.args.self c.args.axis in
      let puts = subst (λ (value : ℕ). Puts c.loop-line.canvas w.put_line.new.canvas (text value)) w.in-Some.ensures.1 w.put_line.ensures in
      let goes_on = puts_line _ _ _ c.args.axis text c.loop-line.line _ _ c.loop-line-test.true w.in-Some.ensures.0 c.loop-line.invariant puts in
      rw w.canvas-is goes_on
  | in_default w ↦
      let text = line_text c.args.self c.args.axis in
      let higher : c.args.axis.top < c.args.axis.unit * c.loop-line.line = omega (arith, w.in_default.ensures) in
      let goes_on = skips_line _ _ c.args.axis text c.loop-line.line _ _ c.loop-line-test.true higher c.loop-line.invariant in
      rw w.canvas-is goes_on
]

pub returns : goal.returns
unfolding texts_from
returns c =
    let panel = c.args.self in
    let axis = c.args.axis in
    let ended : c.loop-line.line ≡ 6 = omega arith in
    let left = subst (λ (line : ℕ). Leaves c.args.canvas.now c.loop-line.canvas (lines_text panel axis) (texts_from axis (line_text panel axis) line ++ codes "\"/>\n")) ended c.loop-line.invariant in
    leaves_none _ _ _ (leaves_less _ _ _ _ _ _ left c.put-2.ensures)

use Rattle.std.proofs.Common.{◌++◌, codes}
use Rattle.chart.specs.Texts.{line_text, lines_text}
use Rattle.chart.proofs.Lines.{texts_from}
use Rattle.chart.proofs.Putting.{Leaves}
use Rattle.chart.proofs.panel.Panel.put_lines.Given as goal

abbrev pub invariant-loop-line : goal.invariant-loop-line
invariant-loop-line l =
    Leaves l.fn.canvas l.canvas (lines_text l.fn.self l.fn.axis) (texts_from l.axis (line_text l.self l.axis) l.line ++ codes "\"/>\n")

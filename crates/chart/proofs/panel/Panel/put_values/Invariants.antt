use Rattle.std.proofs.Common.{◌++◌, []}
use Rattle.chart.specs.Texts.{value_text, values_text}
use Rattle.chart.proofs.Lines.{texts_from}
use Rattle.chart.proofs.Putting.{Leaves}
use Rattle.chart.proofs.panel.Panel.put_values.Given as goal

abbrev pub invariant-loop-line : goal.invariant-loop-line
invariant-loop-line l =
    Leaves l.fn.canvas l.canvas (values_text l.fn.self l.fn.axis) (texts_from l.axis (value_text l.self l.axis) l.line ++ [])

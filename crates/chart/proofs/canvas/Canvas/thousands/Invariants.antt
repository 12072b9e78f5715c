use Rattle.std.proofs.Common.{◌≡◌, ◌+◌, length, drop}
use Rattle.chart.specs.Counts.{thousands_text}
use Rattle.chart.proofs.Putting.{Leaves}
use Rattle.chart.proofs.canvas.Canvas.thousands.Given as goal

abbrev pub invariant-loop-digit : goal.invariant-loop-digit
invariant-loop-digit g l = record {
  left : l.left + l.digit-index ≡ length l.digit-items;
  text : Leaves l.fn.self l.self (thousands_text (g.I.Integer.text l.fn.number)) (thousands_text (drop l.digit-index l.digit-items));
}

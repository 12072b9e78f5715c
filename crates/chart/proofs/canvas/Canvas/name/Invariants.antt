use Rattle.std.proofs.Common.{◌≡◌, ◌+◌, length, drop}
use Rattle.std.specs.Str.{chars}
use Rattle.chart.specs.Texts.{width, name_text}
use Rattle.chart.proofs.Names.{left_of}
use Rattle.chart.proofs.Putting.{Leaves}
use Rattle.chart.proofs.canvas.Canvas.name.Given as goal

abbrev pub invariant-loop-letter : goal.invariant-loop-letter
invariant-loop-letter l = record {
  sum : l.before + width (drop (length l.yielded) (chars l.name)) ≡ l.whole;
  text : Leaves l.fn.self l.self (name_text (chars l.name)) (left_of l.whole l.before l.is_cut (drop (length l.yielded) (chars l.name)));
}

use Rattle.std.proofs.Common.{◌≡◌, ◌+◌, length, drop}
use Rattle.std.specs.Str.{chars}
use Rattle.chart.specs.Texts.{width}
use Rattle.chart.proofs.canvas.letters_of.Given as goal

abbrev pub invariant-loop-letter : goal.invariant-loop-letter
invariant-loop-letter l =
    l.letters + width (drop (length l.yielded) (chars l.name)) ≡ width (chars l.name)

use Rattle.std.proofs.Common.{◌≡◌, ◌+◌, length, drop, arith}
use Rattle.std.specs.Str.{chars}
use Rattle.std.proofs.lemmas.Iterator.{YieldsList-from_chars}
use Rattle.std.proofs.lemmas.Iterator.Consumers.{YieldsList-turn, YieldsList-end}
use Rattle.std.proofs.lemmas.List.{at_drop_all, length_push}
use Rattle.std.proofs.lemmas.Bool.Decides.{nat_tests}
use Rattle.chart.specs.Texts.{width, width_of}
use Rattle.chart.proofs.Names.{width_of_text, next_letter}
use Rattle.chart.proofs.canvas.letters_of.Goals as goal

pub loop-letter-preserved : goal.loop-letter-preserved
loop-letter-preserved c =
    let turn = YieldsList-turn (YieldsList-from_chars c.args.name.now c.utf8.name cc) c.loop-letter.yielded _ c.loop-letter.yielded_by _ _ c.in-Some.letter c.in-Some.is c.next.ensures.steps in
    let next : width (drop (length c.loop-letter.yielded) (chars c.args.name.now)) ≡ width_of c.in-Some.letter + width (drop (length c.loop-letter.yielded + 1) (chars c.args.name.now)) = next_letter width _ _ _ turn in
    let more = length_push c.loop-letter.yielded c.in-Some.letter in
    let fits = width_of_text c.args.name.now c.utf8.name in
    grind (arith, nat_tests)

pub returns : goal.returns
returns c =
    let end = YieldsList-end (YieldsList-from_chars c.args.name.now c.utf8.name cc) c.loop-letter.yielded _ c.loop-letter.yielded_by _ _ c.in-None.is c.next.ensures.steps in
    omega (arith, at_drop_all width (chars c.args.name.now) (length c.loop-letter.yielded) (omega (arith, end.1)))

use Rattle.std.proofs.Common.{◌≡◌, ◌+◌, ℕ, List, Bool, true, false, length, drop, ap, sym, subst, ◌∙◌, arith}
use Rattle.std.specs.Str.{chars}
use Rattle.std.proofs.lemmas.Iterator.{YieldsList-from_chars}
use Rattle.std.proofs.lemmas.Iterator.Consumers.{YieldsList-turn, YieldsList-end}
use Rattle.std.proofs.lemmas.List.{at_drop_all, length_push}
use Rattle.chart.specs.Texts.{width, width_of, name_text}
use Rattle.chart.proofs.Names.{left_of, left_of_whole, left_of_none, is_shown, shows_letter, cuts, hides_letter, end_of_letter, moved}
use Rattle.chart.proofs.Putting.{Leaves, leaves_all, leaves_none}
use Rattle.chart.proofs.canvas.Canvas.name.Goals as goal

pub loop-letter-init : goal.loop-letter-init
loop-letter-init c =
    let canvas = c.args.self.now in
    let letters = chars c.args.name.now in
    let whole_is = ap (λ (whole : ℕ). left_of whole 0 false letters) c.letters_of-whole.ensures ∙ left_of_whole letters in
    record {
      sum = omega arith;
      text = subst (λ (left : List ℕ). Leaves canvas canvas (name_text letters) left) (sym whole_is) (leaves_all canvas (name_text letters));
    }

pub loop-letter-preserved-then-is_shown : goal.loop-letter-preserved-then-is_shown
loop-letter-preserved-then-is_shown c =
    let letters = chars c.args.name.now in
    let yielded = c.loop-letter.yielded in
    let turn = YieldsList-turn (YieldsList-from_chars c.args.name.now c.utf8.name cc) yielded _ c.loop-letter.yielded_by _ _ c.in-Some.letter c.in-Some.is c.next.ensures.steps in
    let ends = end_of_letter letters (length yielded) c.in-Some.letter c.loop-letter.before c.width_of.result c.saturating_add-end.result c.letters_of-whole.result turn c.loop-letter.invariant.sum c.letters_of-whole.type_inv c.width_of.ensures c.saturating_add-end.ensures in
    let more = length_push yielded c.in-Some.letter in
    let is_shown_is = subst (λ (end : ℕ). is_shown c.letters_of-whole.result c.loop-letter.before end ≡ true) ends.0 (sym c.is_shown.ensures ∙ c.if-is_shown.true) in
    record {
      sum = subst (λ (place : ℕ). c.saturating_add-end.result + width (drop place letters) ≡ c.letters_of-whole.result) (sym more) ends.1;
      text = moved _ _ _ letters _ _ _ _ _ _ ends.0 more (shows_letter _ _ _ _ letters _ _ _ _ _ turn is_shown_is c.loop-letter.invariant.text c.escaped.ensures);
    }

pub loop-letter-preserved-then-not-is_cut : goal.loop-letter-preserved-then-not-is_cut
loop-letter-preserved-then-not-is_cut c =
    let letters = chars c.args.name.now in
    let yielded = c.loop-letter.yielded in
    let turn = YieldsList-turn (YieldsList-from_chars c.args.name.now c.utf8.name cc) yielded _ c.loop-letter.yielded_by _ _ c.in-Some.letter c.in-Some.is c.next.ensures.steps in
    let ends = end_of_letter letters (length yielded) c.in-Some.letter c.loop-letter.before c.width_of.result c.saturating_add-end.result c.letters_of-whole.result turn c.loop-letter.invariant.sum c.letters_of-whole.type_inv c.width_of.ensures c.saturating_add-end.ensures in
    let more = length_push yielded c.in-Some.letter in
    let is_shown_is = subst (λ (end : ℕ). is_shown c.letters_of-whole.result c.loop-letter.before end ≡ false) ends.0 (sym c.is_shown.ensures ∙ c.if-is_shown.false) in
    let not_cut = subst (λ (is_cut : Bool). Leaves c.args.self.now c.loop-letter.self (name_text letters) (left_of c.letters_of-whole.result c.loop-letter.before is_cut (drop (length yielded) letters))) c.if-not-is_cut.true c.loop-letter.invariant.text in
    record {
      sum = subst (λ (place : ℕ). c.saturating_add-end.result + width (drop place letters) ≡ c.letters_of-whole.result) (sym more) ends.1;
      text = moved _ _ _ letters _ _ _ _ _ _ ends.0 more (cuts _ _ _ _ letters _ _ _ _ turn is_shown_is not_cut c.put_letter.ensures);
    }

pub loop-letter-preserved : goal.loop-letter-preserved
loop-letter-preserved c =
    let letters = chars c.args.name.now in
    let yielded = c.loop-letter.yielded in
    let turn = YieldsList-turn (YieldsList-from_chars c.args.name.now c.utf8.name cc) yielded _ c.loop-letter.yielded_by _ _ c.in-Some.letter c.in-Some.is c.next.ensures.steps in
    let ends = end_of_letter letters (length yielded) c.in-Some.letter c.loop-letter.before c.width_of.result c.saturating_add-end.result c.letters_of-whole.result turn c.loop-letter.invariant.sum c.letters_of-whole.type_inv c.width_of.ensures c.saturating_add-end.ensures in
    let more = length_push yielded c.in-Some.letter in
    let is_shown_is = subst (λ (end : ℕ). is_shown c.letters_of-whole.result c.loop-letter.before end ≡ false) ends.0 (sym c.is_shown.ensures ∙ c.if-is_shown.false) in
    let cut = subst (λ (is_cut : Bool). Leaves c.args.self.now c.loop-letter.self (name_text letters) (left_of c.letters_of-whole.result c.loop-letter.before is_cut (drop (length yielded) letters))) c.if-not-is_cut.false c.loop-letter.invariant.text in
    let still_cut = hides_letter _ _ _ letters _ _ _ _ turn is_shown_is cut in
    let hidden = subst (λ (is_cut : Bool). Leaves c.args.self.now c.loop-letter.self (name_text letters) (left_of c.letters_of-whole.result (c.loop-letter.before + width_of c.in-Some.letter) is_cut (drop (length yielded + 1) letters))) (sym c.if-not-is_cut.false) still_cut in
    record {
      sum = subst (λ (place : ℕ). c.saturating_add-end.result + width (drop place letters) ≡ c.letters_of-whole.result) (sym more) ends.1;
      text = moved _ _ _ letters _ _ _ _ _ _ ends.0 more (hidden);
    }

pub returns : goal.returns
returns c =
    let letters = chars c.args.name.now in
    let yielded = c.loop-letter.yielded in
    let end = YieldsList-end (YieldsList-from_chars c.args.name.now c.utf8.name cc) yielded _ c.loop-letter.yielded_by _ _ c.in-None.is c.next.ensures.steps in
    let none = at_drop_all (left_of c.letters_of-whole.result c.loop-letter.before c.loop-letter.is_cut) letters (length yielded) (omega (arith, end.1)) ∙ left_of_none c.letters_of-whole.result c.loop-letter.before c.loop-letter.is_cut in
    leaves_none _ _ _ (subst (λ (left : List ℕ). Leaves c.args.self.now c.loop-letter.self (name_text letters) left) none c.loop-letter.invariant.text)

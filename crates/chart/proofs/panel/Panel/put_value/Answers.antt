use Rattle.std.proofs.Common.{ℕ, ◌+◌, ◌-◌, ◌∙◌, ap, codes, subst}
use Rattle.chart.specs.Texts.{Puts, words_tag}
use Rattle.chart.proofs.Putting.{then_puts}
use Rattle.chart.proofs.panel.Panel.put_value.Goals as goal

pub returns : goal.returns
returns c =
    let look = codes "font-size=\"22\" fill=\"#444\" text-anchor=\"end\"" in
    let x_is = c.saturating_sub-x.ensures ∙ ap (λ (x : ℕ). x - 14) c.left.ensures in
    let at_x = subst (λ (x : ℕ). Puts c.args.canvas.now c.begin_words.new.self (words_tag x (c.y-y.result + 8) look)) x_is c.begin_words.ensures in
    let at_y = subst (λ (y : ℕ). Puts c.args.canvas.now c.begin_words.new.self (words_tag (c.args.self.left - 14) (y + 8) look)) c.y-y.ensures at_x in
    let value = then_puts _ _ _ _ _ at_y c.thousands.ensures in
    then_puts _ _ _ _ _ value c.end_words.ensures

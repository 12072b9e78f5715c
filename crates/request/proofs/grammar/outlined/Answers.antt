use Rattle.std.proofs.Common.{map, ap}
use Rattle.std.proofs.lemmas.Result.{IfOk-weaker}
use Rattle.clap.specs.Words.{App}
use Rattle.request.specs.Building.{AddsRules, IsShaped, outline_shape, rule_told}
use Rattle.request.proofs.Rules.{shaped}
use Rattle.request.proofs.grammar.outlined.Goals as goal

pub returns : goal.returns
returns c =
    let o = c.args.outline.now in
    let rules = map rule_told o.arguments.now in
    IfOk-weaker c.with_arguments.result (AddsRules c.after_long_help-command.result rules) (IsShaped (outline_shape o))
    (λ new added. shaped o.name.now c.after_long_help-command.result new rules
    (rw (c.after_long_help-command.ensures, c.about.ensures) (ap (λ (app : App). app.top) c.new.ensures.app))
    (rw (c.after_long_help-command.ensures, c.about.ensures) c.new.ensures.local)
    added)
    c.with_arguments.ensures

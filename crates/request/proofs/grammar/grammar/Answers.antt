use Rattle.std.proofs.Common.{◌≡◌, ap, refl, true}
use Rattle.std.proofs.lemmas.Result.{IfOk-weaker}
use Rattle.clap.specs.Words.{App, app_of}
use Rattle.request.specs.Building.{HasGrammar}
use Rattle.request.proofs.Rules.{has_grammar, no_commands}
use Rattle.request.proofs.grammar.grammar.Goals as goal

pub returns : goal.returns
returns c =
    let parser = c.arg_required_else_help-parser.result in
    let top : app_of parser ≡ no_commands = rw (c.arg_required_else_help-parser.ensures, c.subcommand_required.ensures, c.after_long_help.ensures, c.about.ensures, c.version.ensures) (ap (λ (app : App). record app { top = record (App.top app) { subcommand_required = true; arg_required_else_help = true; has_version = true } }) c.new.ensures.app) in
    IfOk-weaker c.with_commands.result _ HasGrammar (λ new added. has_grammar parser new added top refl refl) c.with_commands.ensures

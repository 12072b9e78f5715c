use Rattle.std.proofs.Common.{rules, ℕ, Bor, List, [], arith}
use Rattle.std.proofs.lemmas.Grind.{common_steps}
use Rattle.request.specs.Building.{rule_told}
use Rattle.request.specs.declared.grammar.Argument.TheVariants.{File}
use Rattle.request.proofs.Rules.{rule_added}
use Rattle.request.proofs.grammar.with_arguments.Goals as goal

abbrev no_text : Bor (List ℕ)
no_text = record { ref_ptr = (0, 0); now = [] }

pub loop-told-preserved : goal.loop-told-preserved
loop-told-preserved c =
    rule_added rule_told c.args.arguments.now c.loop-told.told-index (File no_text no_text)
    c.args.command c.loop-told.command c.in_ok-command.command c.clap_argument.result
    c.loop-told.invariant c.in_ok-command.ensures (search rules) c.clap_argument.ensures.rule (search rules)

pub returns : goal.returns
returns c = grind (arith, common_steps) steps 2000000

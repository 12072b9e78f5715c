use Rattle.std.proofs.Common.{rules, ℕ, Bor, List, [], arith}
use Rattle.std.proofs.lemmas.Grind.{common_steps}
use Rattle.request.specs.declared.grammar.Outline.{Outline}
use Rattle.request.proofs.Rules.{command_added}
use Rattle.request.proofs.grammar.with_commands.Goals as goal

abbrev no_text : Bor (List ℕ)
no_text = record { ref_ptr = (0, 0); now = [] }

abbrev no_outline : Outline
no_outline = record {
  name = no_text;
  about = no_text;
  after_help = no_text;
  arguments = record { ref_ptr = (0, 0); now = [] };
}

pub loop-outline-preserved : goal.loop-outline-preserved
loop-outline-preserved c =
    command_added c.args.outlines.now c.loop-outline.outline-index no_outline
    c.args.parser c.loop-outline.parser c.in_ok-outlined.field-0 c.in_ok-parser.parser
    c.loop-outline.invariant c.in_ok-parser.ensures.shape (search rules) (search rules)

pub returns : goal.returns
returns c = grind (arith, common_steps) steps 2000000

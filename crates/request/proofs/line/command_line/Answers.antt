use Rattle.std.proofs.Common.{map}
use Rattle.clap.specs.Words.{app_of}
use Rattle.request.proofs.Reading.{are_orders, answers, is_told, refused, some_orders}
use Rattle.request.proofs.line.command_line.Goals as goal

pub returns-in_default : goal.returns-in_default
returns-in_default c = (some_orders, are_orders, tt)

pub matched_line-requires : goal.matched_line-requires
matched_line-requires c =
    let grammar = c.in-Ok.ensures in
    is_told grammar.orders grammar.names (map (λ word. word.now) c.args.words.now) c.in-Ok-try_get_matches_from.matches c.try_get_matches_from.result
    (app_of c.in-Ok.grammar) grammar.app c.in-Ok-try_get_matches_from.ensures.matches c.try_get_matches_from.ensures.kinds c.in-Ok-try_get_matches_from.is

pub returns-in-Ok-try_get_matches_from : goal.returns-in-Ok-try_get_matches_from
returns-in-Ok-try_get_matches_from c =
    let grammar = c.in-Ok.ensures in (
      grammar.orders,
      grammar.names,
      answers grammar.orders grammar.names (map (λ word. word.now) c.args.words.now) c.in-Ok-try_get_matches_from.matches c.try_get_matches_from.result
          (app_of c.in-Ok.grammar) grammar.app c.in-Ok-try_get_matches_from.ensures.matches c.try_get_matches_from.ensures.kinds
          c.in-Ok-try_get_matches_from.is c.matched_line.result c.matched_line.ensures,
    )

pub returns-in-Err : goal.returns-in-Err
returns-in-Err c =
    let grammar = c.in-Ok.ensures in (
      grammar.orders,
      grammar.names,
      refused grammar.orders grammar.names (map (λ word. word.now) c.args.words.now) c.in-Err.error c.try_get_matches_from.result
          (app_of c.in-Ok.grammar) c.usage_of.result grammar.app c.try_get_matches_from.ensures.kinds c.in-Err.is c.usage_of.ensures,
    )

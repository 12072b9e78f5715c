use Rattle.std.proofs.Common.{codes, map, subst, sym}
use Rattle.std.proofs.lemmas.Result.{IfOk-weaker}
use Rattle.clap.specs.Words.{found_of, rows_of}
use Rattle.request.specs.Arguments.{Files, HasValue, SomeTexts}
use Rattle.request.proofs.Texts.{texts_are, texts_found}
use Rattle.request.proofs.matched.sessions.Goals as goal

pub unwrap-requires : goal.unwrap-requires
unwrap-requires c = texts_found (found_of c.args.matches.now) (codes "SESSION") c.get_strs.result c.get_strs.ensures c.requires

pub returns : goal.returns
returns c =
    let rows = rows_of (found_of c.args.matches.now) in
    let has = texts_are (found_of c.args.matches.now) (codes "SESSION") c.get_strs.result c.get_strs.ensures c.requires c.unwrap.result c.unwrap.ensures in
    IfOk-weaker c.to_vec.result _ (λ sessions. HasValue rows (Files (codes "SESSION")) (SomeTexts (map (λ session. session.now) sessions.items)))
    (λ sessions same. subst (λ names. HasValue rows (Files (codes "SESSION")) (SomeTexts (map (λ session. session.now) names))) (sym (same (λ x y is. is))) has)
    c.to_vec.ensures.items_if_clones_equal

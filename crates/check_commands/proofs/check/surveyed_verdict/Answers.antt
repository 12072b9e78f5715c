use Rattle.std.proofs.lemmas.Result.{IfOk-weaker}
use Rattle.check_commands.proofs.CheckedFiles.{some_verdict}
use Rattle.check_commands.proofs.check.surveyed_verdict.Goals as goal

pub returns-then-is_some-clause-verdict : goal.returns-then-is_some-clause-verdict
returns-then-is_some-clause-verdict c = λ x o text h.
    IfOk-weaker c.survey.result _ _ (λ found is. (is.0, is.1, is.2, is.3.checked)) (c.survey.ensures.verdict c.args.request.now.identity x o text h)

pub returns-then-is_some-clause-some : goal.returns-then-is_some-clause-some
returns-then-is_some-clause-some c =
    let who = c.args.request.now.identity in
    IfOk-weaker c.survey.result _ _ (λ found is. some_verdict who found.0 found.1 is) (c.survey.ensures.some who c.requires)

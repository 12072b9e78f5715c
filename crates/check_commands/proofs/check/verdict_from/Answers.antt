use Rattle.certificate.proofs.Results.{passed_on}
use Rattle.cert.proofs.FromReader.{not_begun}
use Rattle.check_commands.proofs.Pictured.{is_surveyed}
use Rattle.check_commands.proofs.check.verdict_from.Goals as goal

pub returns-in-Err-clause-verdict : goal.returns-in-Err-clause-verdict
returns-in-Err-clause-verdict g c =
    not_begun c.args.request.now.identity (g.R.Read.remaining c.args.frames.now) c.args.certificate.now c.args.object.now c.in-Err.reason
    (rw (c.in-Err.is, c.view.ensures) at c.in_ok-checker.ensures.against)

pub returns-in_err-feed_all-clause-fault : goal.returns-in_err-feed_all-clause-fault
returns-in_err-feed_all-clause-fault g c =
    passed_on c.from_residual-in_err-feed_all.result c.in_err-feed_all.field-0.0 _ c.from_residual-in_err-feed_all.ensures.1
    (c.in_err-feed_all.ensures.fault c.args.request.now.identity c.args.object.now c.args.certificate.now (rw (c.in-Ok.is, c.view.ensures) at c.in_ok-checker.ensures.fed))

pub returns-then-is_some-clause-verdict : goal.returns-then-is_some-clause-verdict
returns-then-is_some-clause-verdict g c =
    (c.in_ok-survey.ensures c.args.request.now.identity c.args.object.now c.args.certificate.now _ _
    (c.in_ok-feed_all.ensures.read c.args.request.now.identity c.args.object.now c.args.certificate.now (rw (c.in-Ok.is, c.view.ensures) at c.in_ok-checker.ensures.fed))).checked

pub returns-then-is_some-clause-surveyed : goal.returns-then-is_some-clause-surveyed
returns-then-is_some-clause-surveyed g c =
    is_surveyed c.args.request.now.picture _ c.in_ok-survey.field-0.0 c.in_ok-survey.field-0.1
    (c.in_ok-survey.ensures c.args.request.now.identity c.args.object.now c.args.certificate.now _ _
    (c.in_ok-feed_all.ensures.read c.args.request.now.identity c.args.object.now c.args.certificate.now (rw (c.in-Ok.is, c.view.ensures) at c.in_ok-checker.ensures.fed))).surveyed

pub returns-clause-verdict : goal.returns-clause-verdict
returns-clause-verdict g c =
    c.in_ok-verdict.ensures.from c.args.request.now.identity c.args.object.now c.args.certificate.now _ _
    (c.in_ok-feed_all.ensures.read c.args.request.now.identity c.args.object.now c.args.certificate.now (rw (c.in-Ok.is, c.view.ensures) at c.in_ok-checker.ensures.fed))

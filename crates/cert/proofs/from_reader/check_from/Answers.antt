use Rattle.cert.proofs.FromReader.{not_begun}
use Rattle.cert.proofs.from_reader.check_from.Goals as goal

pub returns-in-Err-clause-verdict : goal.returns-in-Err-clause-verdict
returns-in-Err-clause-verdict g c =
    not_begun c.args.identity (g.R.Read.remaining c.args.reader.now) c.args.certificate.now c.args.object.now c.in-Err.reason
    (rw (c.in-Err.is, c.view.ensures) at c.in_ok-checker.ensures.against)

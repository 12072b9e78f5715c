use Rattle.std.proofs.Common.{Some}
use Rattle.cert.proofs.FromReader.{not_begun}
use Rattle.alcrs_c.proofs.check.check_bytes.Goals as goal

pub returns-in-Err-clause-verdict : goal.returns-in-Err-clause-verdict
returns-in-Err-clause-verdict c =
    (c.args.session.now, not_begun c.args.identity (Some c.args.session.now) c.args.certificate c.args.object.now c.in-Err.reason (rw c.in-Err.is at c.in_ok-checker.ensures.against))

use Rattle.std.proofs.Common.{◌≡◌, refl}
use Rattle.cert.specs.declared.verdict.Reason.TheVariants.{Thin}
use Rattle.cert.proofs.Lacking.{enough_certified}
use Rattle.cert.proofs.tally.Tally.verdict.Goals as goal

pub returns-in-Some-clause-short : goal.returns-in-Some-clause-short
returns-in-Some-clause-short c = λ b have need e. (let is : c.in-Some.reason ≡ Thin b have need = cc in c.in-Some.ensures.short b have need is)

pub returns-in_ok-report-in-None-clause-verdict : goal.returns-in_ok-report-in-None-clause-verdict
returns-in_ok-report-in-None-clause-verdict c = λ z datagrams h. enough_certified z c.args.self.now datagrams h (c.in-None.ensures.none refl)

use Rattle.std.proofs.Common.{subst}
use Rattle.reception.specs.declared.scope.Identity.{Identity}
use Rattle.cert.specs.declared.verdict.Verdict.{Verdict}
use Rattle.cert.specs.declared.verdict.Verdict.TheVariants.{Yes}
use Rattle.alcrs_c.specs.Checked.{IsChecked}
use Rattle.alcrs_c.proofs.check.alcrs_check.Goals as goal

pub returns-in-Ok-Yes-clause-yes : goal.returns-in-Ok-Yes-clause-yes
returns-in-Ok-Yes-clause-yes c = λ _.
    let a = c.args in (
      c.in-Ok-Yes.yes,
      subst (λ (who : Identity). IsChecked who a.session.now a.object.now a.certificate.now (Yes c.in-Ok-Yes.yes)) c.identity-identity.ensures
          (subst (λ (v : Verdict). IsChecked c.identity-identity.result a.session.now a.object.now a.certificate.now v) c.in-Ok-Yes.field-0-is c.in-Ok-Yes.ensures.checked),
      c.report_numbers.ensures,
      c.put_blocks.ensures,
      c.put_kill.ensures,
    )

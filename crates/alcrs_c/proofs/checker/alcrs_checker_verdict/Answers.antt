use Rattle.std.proofs.Common.{◌≡◌, subst, rules}
use Rattle.cert.specs.Fed.{IsFed}
use Rattle.cert.specs.Report.{OnYes}
use Rattle.cert.specs.Verdict.{IsVerdict}
use Rattle.cert.specs.declared.verdict.Report.{Report}
use Rattle.cert.specs.declared.verdict.Verdict.{Verdict}
use Rattle.cert.specs.declared.verdict.Verdict.TheVariants.{Yes}
use Rattle.alcrs_c.specs.Fed.{IsYes}
use Rattle.alcrs_c.proofs.checker.alcrs_checker_verdict.Goals as goal

-- what holds on yes, holds at this yes
at_yes : (P : Report → Type 0) {verdict : Verdict} {report : Report} → verdict ≡ Yes report
    → OnYes verdict P → P report
at_yes P is p = subst (λ (verdict : Verdict). OnYes verdict P) is p

pub returns-in-Ok-Yes-clause-yes : goal.returns-in-Ok-Yes-clause-yes
returns-in-Ok-Yes-clause-yes c = λ who object z ds opened _.
    let fed : IsFed c.deref.result.now who object z ds = search rules in
    let is = c.in-Ok-Yes.field-0-is in
    let e = c.in-Ok-Yes.ensures in
    let yes : IsYes who ds object z c.in-Ok-Yes.yes = record {
      verdict = subst (λ (v : Verdict). IsVerdict who ds object z v) is (e.verdict who object z ds fed);
      decodes = at_yes _ is (e.decodes who object z ds fed);
      undecided = at_yes _ is (e.undecided who object z ds fed);
      tells = at_yes _ is (e.tells who object z ds fed);
      reports = at_yes _ is (e.report who object z ds fed);
      losses = at_yes _ is (e.losses who object z ds fed);
    } in
    (c.in-Ok-Yes.yes, yes, c.report_numbers.ensures, c.put_blocks.ensures, c.put_kill.ensures)

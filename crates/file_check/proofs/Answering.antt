-- What a tally of files answers.
use Rattle.std.proofs.Common.{ℕ, List, Option, Some, Result, Ok, Err}
use Rattle.std.specs.Prelude.{IfOk}
use Rattle.reception.specs.declared.scope.Identity.{Identity}
use Rattle.certificate.specs.Certificate.{Certificate}
use Rattle.cert.specs.FromReader.{IsCheckedFrom}
use Rattle.cert.specs.Report.{IsReport, OnYes}
use Rattle.cert.specs.Scan.{VerdictWhereGiven}
use Rattle.cert.specs.Surveying.{IsSurvey, OnYesWith}
use Rattle.cert.specs.declared.tally.Tally.{Tally}
use Rattle.cert.specs.declared.verdict.Survey.{Survey}
use Rattle.cert.specs.declared.verdict.Verdict.{Verdict}
use Rattle.file_check.specs.Checked.{IsFoundIn}
use Rattle.file_check.specs.Files.{IsSurveyIn, IsTextOf, IsVerdictIn}
use Rattle.file_check.proofs.WholeTallies.{survey_in, verdict_in}

module _ (who : Identity) (x o text : List ℕ) (z : Certificate) (is_text : IsTextOf text z) (tally : Tally) (found : IsFoundIn who x o z (Ok tally)) where
  pub told : (v : Verdict) → VerdictWhereGiven tally.scope.identity found.0.datagrams z v → OnYes v (IsReport tally.scope.identity found.0.datagrams z.fti)
      → IsCheckedFrom who (Some x) found.0.left o z v
  told v given report = verdict_in who x o z is_text.0 found.1 found.2 found.3 tally found.0 v given report

  pub verdict_told : {E : Type 0} (r : Result Verdict E) → IfOk r (VerdictWhereGiven tally.scope.identity found.0.datagrams z)
      → IfOk r (λ v. OnYes v (IsReport tally.scope.identity found.0.datagrams z.fti)) → IfOk r (IsVerdictIn who x o text)
  verdict_told (Ok v) given report = (z, is_text, found.0.left, told v given report)
  verdict_told (Err e) given report = tt

  pub survey_told : {E : Type 0} (r : Result (Verdict × Option Survey) E) → IfOk r (λ f. VerdictWhereGiven tally.scope.identity found.0.datagrams z f.0)
      → IfOk r (λ f. OnYes f.0 (IsReport tally.scope.identity found.0.datagrams z.fti)) → IfOk r (λ f. OnYesWith f.0 f.1 (IsSurvey tally.scope.identity found.0.datagrams z.fti))
      → IfOk r (λ f. IsSurveyIn who x o text f.0 f.1)
  survey_told (Ok f) given report survey = (z, is_text, found.0.left, survey_in who x o z is_text.0 found.1 found.2 found.3 tally found.0 f.0 given report f.1 survey)
  survey_told (Err e) given report survey = tt

-- What a picture of a yes shows beside its report.
use Rattle.std.specs.Prelude.{◌≡◌, ℕ, List, length, Option, Some, None}
use Rattle.losses.specs.Losses.{carrier_places}
use Rattle.losses.specs.Runs.{AreRuns, IsLeastLength}
use Rattle.partition.specs.Fti.{Fti}
use Rattle.alc.specs.Reading.{Reading}
use Rattle.reception.specs.declared.scope.Identity.{Identity}
use Rattle.reception.specs.Reception.{ReadAll}
use Rattle.certificate.specs.Certificate.{Certificate}
use Rattle.cert.specs.FromReader.{IsCheckedFrom}
use Rattle.cert.specs.Report.{blocks_of}
use Rattle.cert.specs.declared.verdict.Report.{Report}
use Rattle.cert.specs.declared.verdict.Survey.{Survey}
use Rattle.cert.specs.declared.verdict.Verdict.{Verdict}
use Rattle.cert.specs.declared.verdict.Verdict.TheVariants.{Yes, No}

-- How many datagrams there are; the places of the carriers; and from each place on the longest run
-- that may be missed, of which the shortest is the report's burst.
pub record IsSurvey (who : Identity) (ds : List (List ℕ)) (f : Fti) (report : Report)
    (survey : Survey) : Type 0 where
  pub readings : List Reading
  pub read : ReadAll ds readings
  pub datagrams : survey.datagrams ≡ length ds
  pub carriers : survey.carriers.items ≡ carrier_places (blocks_of who f) readings
  pub runs : AreRuns (blocks_of who f) readings survey.runs.items
  pub burst : IsLeastLength survey.runs.items report.burst

-- a fact of report and survey, at a yes: there, and only there, is a survey
abbrev pub OnYesWith : Verdict → Option Survey → (Report → Survey → Type 0) → Type 0
OnYesWith (Yes report) (Some survey) P = P report survey
OnYesWith (No reason) None P = Unit {0}
OnYesWith _ _ P = ⊥

-- the verdict on the datagrams that were read, and at yes the survey of just these
pub record IsSurveyedFrom (who : Identity) (old new : Option (List ℕ)) (object : List ℕ)
    (z : Certificate) (verdict : Verdict) (survey : Option Survey) : Type 0 where
  pub checked : IsCheckedFrom who old new object z verdict
  pub surveyed : OnYesWith verdict survey (IsSurvey who checked.datagrams z.fti)

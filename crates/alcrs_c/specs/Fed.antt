-- What a check answers that is fed datagrams.
use Rattle.std.specs.Prelude.{◌≡◌, ℕ, List, []}
use Rattle.reception.specs.Headline.{DecodesWhereEnough, TwinWhereShort, TellsElse}
use Rattle.reception.specs.declared.scope.Identity.{Identity}
use Rattle.certificate.specs.Certificate.{Certificate, IsCertificate, certificate_text}
use Rattle.cert.specs.Bearing.{BearsLosses}
use Rattle.cert.specs.Feeding.{IsNoToAll}
use Rattle.cert.specs.Report.{IsReport}
use Rattle.cert.specs.Verdict.{IsVerdict}
use Rattle.cert.specs.declared.verdict.Reason.{Reason}
use Rattle.cert.specs.declared.verdict.Report.{Report}
use Rattle.cert.specs.declared.verdict.Verdict.TheVariants.{Yes}

-- The certificate's bytes are a certificate's, and the verdict is no for this reason whatever
-- datagrams come.
pub record IsNoAtOnce (who : Identity) (object certificate : List ℕ) (reason : Reason)
    : Type 0 where
  pub z : Certificate
  pub is : IsCertificate z
  pub text : certificate ≡ certificate_text z
  pub no : IsNoToAll who [] object z reason

-- The verdict on these datagrams is yes, with this report and all that a yes promises.
pub record IsYes (who : Identity) (datagrams : List (List ℕ)) (object : List ℕ) (z : Certificate)
    (report : Report) : Type 0 where
  pub verdict : IsVerdict who datagrams object z (Yes report)
  pub decodes : DecodesWhereEnough who z.fti datagrams object
  pub undecided : TwinWhereShort who z.fti datagrams object
  pub tells : TellsElse who z.fti datagrams
  pub reports : IsReport who datagrams z.fti report
  pub losses : BearsLosses who datagrams object report

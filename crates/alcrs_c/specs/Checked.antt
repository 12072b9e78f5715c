-- What a check of bytes answers.
use Rattle.std.specs.Prelude.{◌≡◌, ◌≢◌, ℕ, false, List, Some}
use Rattle.session.specs.declared.frame.FrameFault.{FrameFault}
use Rattle.session.specs.declared.frame.FrameFault.TheVariants.{NoMemory}
use Rattle.reception.specs.declared.scope.Identity.{Identity}
use Rattle.certificate.specs.Certificate.{Certificate, IsCertificate, certificate_text}
use Rattle.cert.specs.FromReader.{IsCheckedFrom, IsRefusedBehind}
use Rattle.cert.specs.declared.verdict.Verdict.{Verdict}

-- The certificate's bytes are a certificate's. The session's bytes were read from the front, as far
-- as the verdict needs, and this is the verdict on the datagrams in them, with all that a yes
-- promises.
pub record IsChecked (who : Identity) (session object certificate : List ℕ)
    (verdict : Verdict) : Type 0 where
  pub z : Certificate
  pub is : IsCertificate z
  pub text : certificate ≡ certificate_text z
  pub left : List ℕ
  pub checked : IsCheckedFrom who (Some session) (Some left) object z verdict

-- The certificate's bytes are a certificate's. The session's bytes begin with frames that give no
-- reason for a no, and then comes something that is no frame, for this fault.
pub record IsCutOff (who : Identity) (session object certificate : List ℕ)
    (fault : FrameFault) : Type 0 where
  pub z : Certificate
  pub is : IsCertificate z
  pub text : certificate ≡ certificate_text z
  pub left : List ℕ
  pub refused : IsRefusedBehind who fault (Some session) (Some left) false object z
  pub read : fault ≢ NoMemory

-- What a check of files tells, where the files' bytes are told.
use Rattle.std.specs.Prelude.{◌≡◌, ℕ, Bool, true, false, List, Option, Some, None, ⊤}
use Rattle.partition.specs.Fti.{Fti, IsValidFti}
use Rattle.session.specs.Frames.{IsReadFault}
use Rattle.session.specs.declared.frame.FrameFault.TheVariants.{Io}
use Rattle.reception.specs.declared.scope.Identity.{Identity}
use Rattle.certificate.specs.Certificate.{Certificate, IsCertificate, IsCertFault, certificate_text}
use Rattle.certificate.specs.InFile.{IsLost}
use Rattle.cert.specs.FromReader.{IsCheckedFrom, IsRefusedBehind}
use Rattle.cert.specs.Report.{IsReport, OnYes}
use Rattle.cert.specs.Surveying.{IsSurvey, IsSurveyedFrom, OnYesWith}
use Rattle.certificate.specs.declared.certificate.CertFault.{CertFault}
use Rattle.certificate.specs.declared.certificate.CertFault.TheVariants.{Io as CertificateIo}
use Rattle.cert.specs.declared.verdict.Survey.{Survey}
use Rattle.cert.specs.declared.verdict.Verdict.{Verdict}
use Rattle.cert.specs.declared.fault.CheckFault.{CheckFault}
use Rattle.cert.specs.declared.fault.CheckFault.TheVariants.{Frame, Session, Object}
use Rattle.cert.specs.declared.fault.CheckFault.TheVariants.{NoMemory}
use Rattle.cert.specs.declared.fault.CheckFault.TheVariants.{Certificate as NoCertificate}

-- a fact of the bytes of three files
abbrev pub WhereTold : Option (List ℕ) → Option (List ℕ) → Option (List ℕ)
    → (List ℕ → List ℕ → List ℕ → Type 0) → Type 0
WhereTold session object certificate Fact =
    (x o text : List ℕ) → session ≡ Some x → object ≡ Some o → certificate ≡ Some text
    → Fact x o text

-- which of the files can fail
pub record Reliable : Type 0 where
  pub session : Bool
  pub object : Bool
  pub certificate : Bool

-- a file has failed, where all tell their bytes
abbrev pub IsFileFault : Reliable → CheckFault → Type 0
IsFileFault reliable (Frame fault) = ⊥
IsFileFault reliable Session = reliable.session ≡ false
IsFileFault reliable Object = reliable.object ≡ false
IsFileFault reliable (NoCertificate CertificateIo) = reliable.certificate ≡ false
IsFileFault reliable (NoCertificate fault) = ⊥
IsFileFault reliable NoMemory = ⊤

-- why there is no verdict by a certificate: no frame follows, or a file has failed
abbrev pub IsNoVerdict : Identity → Reliable → List ℕ → List ℕ → Certificate → CheckFault → Type 0
IsNoVerdict who reliable session object z (Frame fault) =
    ((left : Option (List ℕ)) × (failed : Bool)
    × IsRefusedBehind who fault (Some session) left failed object z)
    × (fault ≡ Io → reliable.session ≡ false)
IsNoVerdict who reliable session object z fault = IsFileFault reliable fault

-- why a file gives no certificate, or none any more
abbrev pub IsNoCertificate : Option (List ℕ) → Bool → CertFault → Type 0
IsNoCertificate content reliable fault =
    IsCertFault fault content true × (fault ≡ CertificateIo → IsLost content reliable)

-- ---- what is told of three files

-- the bytes are a certificate's
abbrev pub IsTextOf : List ℕ → Certificate → Type 0
IsTextOf text z = IsCertificate z × (text ≡ certificate_text z)

-- the verdict on a session's bytes, an object and a certificate's text
abbrev pub IsVerdictIn : Identity → List ℕ → List ℕ → List ℕ → Verdict → Type 0
IsVerdictIn who session object text verdict = (z : Certificate) × IsTextOf text z
    × (left : Option (List ℕ)) × IsCheckedFrom who (Some session) left object z verdict

-- the verdict, and at a yes the survey
abbrev pub IsSurveyIn : Identity → List ℕ → List ℕ → List ℕ → Verdict → Option Survey → Type 0
IsSurveyIn who session object text verdict survey = (z : Certificate) × IsTextOf text z
    × (left : Option (List ℕ)) × IsSurveyedFrom who (Some session) left object z verdict survey

-- ---- what is told of files whose bytes aren't told

-- at a yes the report on some datagrams
abbrev pub IsVerdictOnSome : Identity → Verdict → Type 0
IsVerdictOnSome who verdict = (datagrams : List (List ℕ)) × (f : Fti) × IsValidFti f
    × OnYes verdict (IsReport who datagrams f)

-- and their survey
abbrev pub IsSurveyOnSome : Identity → Verdict → Option Survey → Type 0
IsSurveyOnSome who verdict survey = (datagrams : List (List ℕ)) × (f : Fti) × IsValidFti f
    × OnYes verdict (IsReport who datagrams f)
    × OnYesWith verdict survey (IsSurvey who datagrams f)

-- why there is none: a fault of the session's frames, which is one of reading, or of the
-- certificate's file
abbrev pub IsFaultUntold : Bool → Option (List ℕ) → Bool → CheckFault → Type 0
IsFaultUntold session certificate reliable (Frame fault) =
    ((failed : Bool) × IsReadFault fault None None failed) × (fault ≡ Io → session ≡ false)
IsFaultUntold session certificate reliable (NoCertificate fault) =
    IsNoCertificate certificate reliable fault
IsFaultUntold session certificate reliable fault = ⊤

-- ---- why there is none

-- any fault but the certificate's: the certificate is there then
abbrev pub IsFilesFault : Identity → Reliable → List ℕ → List ℕ → List ℕ → CheckFault → Type 0
IsFilesFault who reliable session object text (NoCertificate fault) = ⊤
IsFilesFault who reliable session object text fault = (z : Certificate) × IsTextOf text z
    × IsNoVerdict who reliable session object z fault

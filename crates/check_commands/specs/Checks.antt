-- What is told of frames that are checked, and why they aren't.
use Rattle.std.specs.Prelude.{◌≡◌, ◌⊎◌, ℕ, Bool, false, List, [], ◌∷◌, Option, Some, None, ⊤}
use Rattle.std.specs.Prelude.{IfSome}
use Rattle.partition.specs.Fti.{Fti, IsValidFti}
use Rattle.session.specs.declared.frame.FrameFault.TheVariants.{Io as FrameIo}
use Rattle.reception.specs.declared.scope.Identity.{Identity}
use Rattle.certificate.specs.Certificate.{Certificate as CertificateValue}
use Rattle.cert.specs.FromReader.{IsCheckedFrom, IsRefusedBehind}
use Rattle.cert.specs.Report.{IsReport, OnYes}
use Rattle.cert.specs.declared.verdict.Verdict.{Verdict}
use Rattle.request.specs.declared.requests.CheckRequest.{CheckRequest}
use Rattle.request.specs.declared.requests.Request.TheVariants.{Check}
use Rattle.host.specs.World.{Files}
use Rattle.commands.specs.Inputs.{Opened, Bytes, Polynomials, HaveValues}
use Rattle.commands.specs.Commands.{inputs_of, IsCheckStatus, TellsVerdict}
use Rattle.check_commands.specs.declared.check.Answered.{Answered}
use Rattle.commands.specs.Doing.{text_of}
use Rattle.check_commands.specs.Drawing.{HasDrawn}
use Rattle.commands.specs.declared.fault.Fault.{Fault}
use Rattle.commands.specs.declared.fault.Fault.TheVariants.{Memory, Frame}
use Rattle.commands.specs.ReadingInputs.{HasChanged}

-- behind datagrams that have no reason against them comes no frame, or there is no memory
abbrev pub IsNotChecked : Identity → Bool → Option (List ℕ) → List ℕ → CertificateValue → Fault
    → Type 0
IsNotChecked who sound opened object z (Frame fault) =
    (left : Option (List ℕ)) × (failed : Bool)
    × IsRefusedBehind who fault opened left failed object z
    × (fault ≡ FrameIo → sound ≡ false)
IsNotChecked who sound opened object z Memory = ⊤
IsNotChecked who sound opened object z fault = ⊥

-- the lines and the status of the verdict on the frames, and the picture
pub record TellsCheck (r : CheckRequest) (old new : Option (List ℕ)) (object : List ℕ)
    (z : CertificateValue) (answered : Answered) : Type 0 where
  pub verdict : Verdict
  pub checked : IsCheckedFrom r.identity old new object z verdict
  pub text : TellsVerdict r.summary verdict (text_of answered.done.told)
  pub status : IsCheckStatus r verdict answered.done.status
  pub picture : HasDrawn r.picture verdict answered.picture

-- the lines, the status and the picture of the verdict on what the files of a request hold
pub record TellsHeld (files : Option Files) (r : CheckRequest) (answered : Answered) : Type 0 where
  pub opened : Option (List ℕ)
  pub left : Option (List ℕ)
  pub object : List ℕ
  pub z : CertificateValue
  pub read : HaveValues files (inputs_of (Check r))
      (Opened opened ∷ Bytes object ∷ Polynomials z ∷ [])
  pub tells : TellsCheck r opened left object z answered

-- and of a verdict on some datagrams, of which no more is said
pub record TellsSome (r : CheckRequest) (answered : Answered) : Type 0 where
  pub verdict : Verdict
  pub datagrams : List (List ℕ)
  pub fti : Fti
  pub valid : IsValidFti fti
  pub report : OnYes verdict (IsReport r.identity datagrams fti)
  pub text : TellsVerdict r.summary verdict (text_of answered.done.told)
  pub status : IsCheckStatus r verdict answered.done.status
  pub picture : HasDrawn r.picture verdict answered.picture

-- what is told of a request; of files whose bytes aren't told, of some datagrams
abbrev pub TellsRequest : Option Files → CheckRequest → Answered → Type 0
TellsRequest files r answered =
    TellsHeld files r answered ⊎ ((files ≡ None) × TellsSome r answered)

-- ---- files that are checked where they stand

-- a file of one of these names, which are reliable or not, isn't as it was when it was opened
abbrev pub HaveChanged : List ℕ × Bool → List ℕ × Bool → List ℕ × Bool → Fault → Type 0
HaveChanged session object certificate fault =
    HasChanged session.1 session.0 fault ⊎ HasChanged object.1 object.0 fault
    ⊎ HasChanged certificate.1 certificate.0 fault

-- a fact of what a request's files hold, where they tell it
abbrev pub OfFiles : Option Files → CheckRequest → (List ℕ → List ℕ → List ℕ → Type 0) → Type 0
OfFiles files r Fact = IfSome files (λ held. (session : List ℕ) × (object : List ℕ)
    × (text : List ℕ) × (held r.session.now ≡ Some session) × (held r.object.now ≡ Some object)
    × (held r.certificate.now ≡ Some text) × Fact session object text)

-- What is read for a twin, and what is told of it.
use Rattle.std.specs.Prelude.{◌≡◌, ◌≤◌, ℕ, Bool, false, List, [], ◌∷◌, length, Option, Some}
use Rattle.std.specs.Prelude.{codes, IfSome, ⊤}
use Rattle.session.specs.Frames.{AreDatagrams, IsFramed}
use Rattle.certificate.specs.Certificate.{Certificate as CertificateValue}
use Rattle.cert.specs.Verdict.{IsVerdict}
use Rattle.cert.specs.declared.verdict.Verdict.{Verdict}
use Rattle.cert.specs.declared.verdict.Verdict.TheVariants.{Yes, No}
use Rattle.file_check.specs.Shortness.{IsShortFound, MakesTwins}
use Rattle.file_check.specs.declared.checking.ShortBlock.{ShortBlock}
use Rattle.request.specs.declared.requests.TwinRequest.{TwinRequest}
use Rattle.request.specs.declared.requests.Request.TheVariants.{Twin}
use Rattle.host.specs.World.{Files, Holds, World}
use Rattle.commands.specs.Inputs.{Datagrams, Bytes, Polynomials, HaveValues, IsFirstUnread}
use Rattle.commands.specs.Lines.{line_of, verdict_text}
use Rattle.commands.specs.Commands.{inputs_of}
use Rattle.commands.specs.declared.fault.Fault.{Fault}
use Rattle.commands.specs.declared.fault.Fault.TheVariants.{File, Memory}
use Rattle.commands.specs.declared.output.Unwritten.{Unwritten}
use Rattle.commands.specs.declared.output.Unwritten.TheVariants.{Writing, Fault as ByFault}

-- an input can't be had, and those before it can
abbrev pub AreUnread : World → TwinRequest → Fault → Type 0
AreUnread world r fault = IsFirstUnread world (inputs_of (Twin r)) fault

-- the file of a session holds frames
abbrev pub HoldsFrames : Option Files → TwinRequest → Type 0
HoldsFrames files r = Holds files r.session.now
    (λ bytes. (datagrams : List (List ℕ)) × IsFramed datagrams bytes × AreDatagrams datagrams)

-- the verdict is that on what the files hold, and where a block is short, each twin that is made
-- for what came is one of the session
pub record HasJudged (held : Files) (r : TwinRequest) (verdict : Verdict)
    (short : Option ShortBlock) : Type 0 where
  pub session : List ℕ
  pub datagrams : List (List ℕ)
  pub framed : IsFramed datagrams session
  pub object : List ℕ
  pub z : CertificateValue
  pub read : HaveValues (Some held) (inputs_of (Twin r))
      (Datagrams datagrams ∷ Bytes object ∷ Polynomials z ∷ [])
  pub judged : IsVerdict r.identity datagrams object z verdict
  pub twins : MakesTwins r.identity session object z verdict short

-- where they are told
abbrev pub IsJudged : Option Files → TwinRequest → Verdict → Option ShortBlock → Type 0
IsJudged files r verdict short = IfSome files (λ held. HasJudged held r verdict short)

-- what is found of a request's files
abbrev pub IsFoundIn : Option Files → TwinRequest → Verdict → Option ShortBlock → Type 0
IsFoundIn files r verdict short = IsShortFound verdict short × IsJudged files r verdict short

-- the line of a verdict where no block is short
abbrev pub TellsNoTwin : Verdict → List ℕ → Type 0
TellsNoTwin (Yes report) line = line ≡ line_of (codes "no twin")
TellsNoTwin (No reason) line = line ≡ verdict_text (No reason)

-- why a twin isn't written: writing has failed, or there is no memory, or the object's file has
-- failed or isn't so long
abbrev pub IsUntwinned : ℕ → Option (List ℕ) → Bool → List ℕ → Unwritten → Type 0
IsUntwinned size content reliable name (ByFault (File read)) = (read.now ≡ name)
    × ((o : List ℕ) → content ≡ Some o → size ≤ length o → reliable ≡ false)
IsUntwinned size content reliable name (ByFault Memory) = ⊤
IsUntwinned size content reliable name (ByFault fault) = ⊥
IsUntwinned size content reliable name Writing = ⊤

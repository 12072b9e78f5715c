-- What a check answers whose datagrams come from a reader, one after the other.
use Rattle.std.specs.Prelude.{◌≡◌, ℕ, ◌+◌, Bool, true, List, ◌++◌, length, Option, Some, None, ⊤}
use Rattle.std.specs.Io.KnownBytes.{Consumes, IsAtEnd}
use Rattle.session.specs.Frames.{frames, AreDatagrams, IsReadFault}
use Rattle.session.specs.declared.frame.FrameFault.{FrameFault}
use Rattle.alc.specs.Reading.{Reading}
use Rattle.reception.specs.declared.scope.Identity.{Identity}
use Rattle.reception.specs.Symbols.{IsObject}
use Rattle.reception.specs.Reception.{ReadAll}
use Rattle.reception.specs.Headline.{DecodesWhereEnough, TwinWhereShort, TellsElse}
use Rattle.certificate.specs.Certificate.{Certificate, is_for}
use Rattle.cert.specs.Bearing.{BearsLosses}
use Rattle.cert.specs.Report.{IsReport, OnYes}
use Rattle.cert.specs.Verdict.{GivesObject, first_reason, IsVerdict}
use Rattle.cert.specs.declared.verdict.Verdict.{Verdict}
use Rattle.cert.specs.declared.verdict.Verdict.TheVariants.{No}
use Rattle.cert.specs.declared.verdict.Reason.TheVariants.{OtherCertificate, ObjectLength}
use Rattle.cert.specs.declared.verdict.Reason.TheVariants.{NotObject, Packet as NoPacket, OtherFti}
use Rattle.cert.specs.declared.verdict.Reason.TheVariants.{SymbolLength, Range, Symbol}
use Rattle.cert.specs.declared.fault.CheckFault.{CheckFault}
use Rattle.cert.specs.declared.fault.CheckFault.TheVariants.{Frame, NoMemory}

-- How many datagrams a verdict reads, if not all: none for a reason against the certificate's name
-- or the object, and for one at a place none behind it.
abbrev pub read_for : Verdict → Option ℕ
read_for (No OtherCertificate) = Some 0
read_for (No ObjectLength) = Some 0
read_for (No (NotObject b c i)) = Some 0
read_for (No (NoPacket i fault)) = Some (i + 1)
read_for (No (OtherFti i)) = Some (i + 1)
read_for (No (SymbolLength i)) = Some (i + 1)
read_for (No (Range i)) = Some (i + 1)
read_for (No (Symbol i c)) = Some (i + 1)
read_for _ = None

-- A fact is known once so many datagrams were read, and holds whatever follows; or it is one of all
-- of them.
abbrev pub IsKnown : Option ℕ → List (List ℕ) → Option (List ℕ) → (List (List ℕ) → Type 0) → Type 0
IsKnown None datagrams left Fact = IsAtEnd left × Fact datagrams
IsKnown (Some n) datagrams left Fact =
    (length datagrams ≡ n) × ((rest : List (List ℕ)) → AreDatagrams rest → Fact (datagrams ++ rest))

-- Just the frames of some datagrams were read, and the verdict is theirs. At yes it promises of
-- them what a check of a session does.
pub record IsCheckedFrom (who : Identity) (old new : Option (List ℕ)) (object : List ℕ)
    (z : Certificate) (verdict : Verdict) : Type 0 where
  pub datagrams : List (List ℕ)
  pub each : AreDatagrams datagrams
  pub consumed : Consumes old new (frames datagrams)
  pub judged : IsKnown (read_for verdict) datagrams new (λ all. IsVerdict who all object z verdict)
  pub decodes : OnYes verdict (λ _. DecodesWhereEnough who z.fti datagrams object)
  pub undecided : OnYes verdict (λ _. TwinWhereShort who z.fti datagrams object)
  pub tells : OnYes verdict (λ _. TellsElse who z.fti datagrams)
  pub report : OnYes verdict (IsReport who datagrams z.fti)
  pub losses : OnYes verdict (BearsLosses who datagrams object)

-- The frames of some datagrams were read that have no reason at their places, nor have the
-- certificate's name and the object, and then no datagram, for this fault.
pub record IsRefusedBehind (who : Identity) (fault : FrameFault) (old new : Option (List ℕ))
    (failed : Bool) (object : List ℕ) (z : Certificate) : Type 0 where
  pub datagrams : List (List ℕ)
  pub each : AreDatagrams datagrams
  pub name : is_for who z.name ≡ true
  pub form : IsObject z.fti object
  pub gives : GivesObject object z
  pub readings : List Reading
  pub read : ReadAll datagrams readings
  pub none : first_reason who z readings ≡ None
  pub left : Option (List ℕ)
  pub consumed : Consumes old left (frames datagrams)
  pub refused : IsReadFault fault left new failed

-- why there is no verdict: the frame that comes next is refused, or there is no memory
abbrev pub IsCheckFault : (FrameFault → Type 0) → CheckFault → Type 0
IsCheckFault IsRefused (Frame fault) = IsRefused fault
IsCheckFault IsRefused NoMemory = ⊤
IsCheckFault IsRefused _ = ⊥

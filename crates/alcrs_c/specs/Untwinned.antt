-- Why there is no twin.
use Rattle.std.specs.Prelude.{◌≡◌, ℕ, List, Some, None, ⊤}
use Rattle.session.specs.Frames.{StopsAt}
use Rattle.reception.specs.declared.scope.Identity.{Identity}
use Rattle.certificate.specs.Certificate.{Certificate, text_fault}
use Rattle.cert.specs.Verdict.{IsVerdict, short_of}
use Rattle.cert.specs.declared.verdict.Report.{Report}
use Rattle.cert.specs.declared.verdict.Verdict.TheVariants.{Yes, No as SaysNo}
use Rattle.alcrs_c.specs.Twinned.{IsJudged}
use Rattle.alcrs_c.specs.declared.twin.Untwinned.{Untwinned}
use Rattle.alcrs_c.specs.declared.twin.Untwinned.TheVariants.{NoneShort, No, Session}
use Rattle.alcrs_c.specs.declared.twin.Untwinned.TheVariants.{Certificate as NoCertificate}
use Rattle.alcrs_c.specs.declared.twin.Untwinned.TheVariants.{NoMemory}

-- of datagrams and a certificate: the verdict is yes, or a no for another reason; or memory is
-- wanting
abbrev pub IsNoTwin : Identity → List (List ℕ) → List ℕ → Certificate → Untwinned → Type 0
IsNoTwin who datagrams object z NoneShort = (r : Report) × IsVerdict who datagrams object z (Yes r)
IsNoTwin who datagrams object z (No reason) =
    IsVerdict who datagrams object z (SaysNo reason) × (short_of reason ≡ None)
IsNoTwin who datagrams object z (Session e) = ⊥
IsNoTwin who datagrams object z (NoCertificate e) = ⊥
IsNoTwin who datagrams object z NoMemory = ⊤

-- of bytes: the same, or they are no session's, or no certificate's
abbrev pub IsUntwinned : Identity → List ℕ → List ℕ → List ℕ → Untwinned → Type 0
IsUntwinned who session object certificate NoneShort =
    (r : Report) × IsJudged who session object certificate (Yes r)
IsUntwinned who session object certificate (No reason) =
    IsJudged who session object certificate (SaysNo reason) × (short_of reason ≡ None)
IsUntwinned who session object certificate (Session e) = StopsAt e session
IsUntwinned who session object certificate (NoCertificate e) = text_fault certificate ≡ Some e
IsUntwinned who session object certificate NoMemory = ⊤

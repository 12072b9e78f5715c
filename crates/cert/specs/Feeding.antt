-- What a check tells that is fed datagrams, one at a time.
use Rattle.std.specs.Prelude.{◌≡◌, ◌<◌, ◌≤◌, ℕ, List, ◌++◌, length, Option, Some, None, Result, Ok}
use Rattle.std.specs.Prelude.{Err}
use Rattle.std.specs.declared.alloc.AllocError.{AllocError}
use Rattle.session.specs.Frames.{AreDatagrams, most_bytes}
use Rattle.session.specs.declared.frame.FrameFault.TheVariants.{TooLong}
use Rattle.alc.specs.Reading.{Reading}
use Rattle.reception.specs.declared.scope.Identity.{Identity}
use Rattle.reception.specs.Reception.{ReadAll}
use Rattle.certificate.specs.Certificate.{Certificate}
use Rattle.cert.specs.Verdict.{IsVerdict, first_reason}
use Rattle.cert.specs.declared.fault.CheckFault.{CheckFault}
use Rattle.cert.specs.declared.fault.CheckFault.TheVariants.{Frame, NoMemory}
use Rattle.cert.specs.declared.verdict.Reason.{Reason}
use Rattle.cert.specs.declared.verdict.Verdict.TheVariants.{No}

-- the verdict on these datagrams is no for this reason, whatever others follow
abbrev pub IsNoToAll : Identity → List (List ℕ) → List ℕ → Certificate → Reason → Type 0
IsNoToAll who datagrams object z reason =
    (rest : List (List ℕ)) → AreDatagrams rest
    → IsVerdict who (datagrams ++ rest) object z (No reason)

-- no datagram has a reason against it
pub record HasNoReason (who : Identity) (datagrams : List (List ℕ)) (z : Certificate) : Type 0 where
  pub readings : List Reading
  pub read : ReadAll datagrams readings
  pub none : first_reason who z readings ≡ None

-- what a reason tells that came with one of these datagrams, or that none came
abbrev pub IsReasonSoFar : Identity → List (List ℕ) → List ℕ → Certificate → Option Reason → Type 0
IsReasonSoFar who datagrams object z None = HasNoReason who datagrams z
IsReasonSoFar who datagrams object z (Some reason) = IsNoToAll who datagrams object z reason

-- why a datagram wasn't fed: no session has one so long, or memory lacks
abbrev pub IsUnfed : List ℕ → CheckFault → Type 0
IsUnfed datagram (Frame TooLong) = most_bytes < length datagram
IsUnfed datagram NoMemory = length datagram ≤ most_bytes
IsUnfed datagram _ = ⊥

-- what a feed tells where the check has ended before for a reason or want of memory
abbrev pub IsToldAgain : Result Reason AllocError → Result (Option Reason) CheckFault → Type 0
IsToldAgain (Ok reason) (Ok told) = told ≡ Some reason
IsToldAgain (Err e) (Err fault) = fault ≡ NoMemory
IsToldAgain _ _ = ⊥

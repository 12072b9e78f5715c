-- Handles of checkers.
use Rattle.std.specs.Prelude.{◌≡◌, ℕ, Bool, true, false, List, Some, Ok, Err, alloc_error, ⊤}
use Rattle.reception.specs.declared.scope.Identity.{Identity}
use Rattle.certificate.specs.Certificate.{Certificate}
use Rattle.cert.specs.Fed.{IsFed, WasFed, ended_of}
use Rattle.cert.specs.declared.verdict.Reason.{Reason}
use Rattle.alcrs_c.specs.Ready.{IsReady}
use Rattle.alcrs_c.specs.declared.checker.AlcrsChecker.{AlcrsChecker}

-- what is behind the flag: a checker that was made or fed, or anything
abbrev pub IsBehind : Bool → AlcrsChecker → Type 0
IsBehind true h = (h.held.full ≡ true) × WasFed h.held.value
IsBehind false h = ⊤

-- a handle that was set to zero, or that the calls have left
abbrev pub IsHandle : AlcrsChecker → Type 0
IsHandle h = IsBehind h.is_open h

-- the handle is open for this identity's packets, this object and this certificate, and its checker
-- was fed these datagrams
pub record IsOpen (h : AlcrsChecker) (who : Identity) (object : List ℕ) (z : Certificate)
    (datagrams : List (List ℕ)) : Type 0 where
  pub opened : h.is_open ≡ true
  pub full : h.held.full ≡ true
  pub fed : IsFed h.held.value who object z datagrams

-- its check has ended for this reason
abbrev pub IsOver : AlcrsChecker → Reason → Type 0
IsOver h reason = (h.is_open ≡ true) × (ended_of h.held.value ≡ Some (Ok reason))

-- its check has ended for want of memory
abbrev pub Lacks : AlcrsChecker → Type 0
Lacks h = (h.is_open ≡ true) × (ended_of h.held.value ≡ Some (Err alloc_error))

-- the handle is open with a checker that is ready
pub record IsOpenFor (h : AlcrsChecker) (who : Identity) (object certificate : List ℕ)
    : Type 0 where
  pub opened : h.is_open ≡ true
  pub full : h.held.full ≡ true
  pub ready : IsReady who object certificate h.held.value

-- What a checker was fed: which datagrams, for which identity, object and certificate.
use Rattle.std.specs.Prelude.{◌≡◌, ℕ, List, [], Option, Some, None, Result, Ok, Err}
use Rattle.std.specs.declared.alloc.AllocError.{AllocError}
use Rattle.std.specs.Cow.{cow_slice_items}
use Rattle.std.specs.Io.KnownBytes.{Consumes, IsAtEnd}
use Rattle.session.specs.Frames.{frames, AreDatagrams}
use Rattle.reception.specs.declared.scope.Identity.{Identity}
use Rattle.certificate.specs.Certificate.{Certificate}
use Rattle.cert.specs.DatagramWalk.{HasWalked}
use Rattle.cert.specs.Feeding.{IsNoToAll}
use Rattle.cert.specs.FromReader.{IsKnown, read_for}
use Rattle.cert.specs.Verdict.{IsVerdict}
use Rattle.cert.specs.declared.verdict.Verdict.TheVariants.{No}
use Rattle.cert.specs.Twins.{IsShortIn}
use Rattle.cert.specs.declared.checker.Checker.{Checker}
use Rattle.cert.specs.declared.verdict.Reason.{Reason}

-- these datagrams were looked at, for this identity, object and certificate
pub record IsWalkOver (checker : Checker) (who : Identity) (object : List ℕ) (z : Certificate)
    (datagrams : List (List ℕ)) : Type 0 where
  pub identity : checker.tally.scope.identity ≡ who
  pub certificate : checker.symbols ≡ z
  pub object_is : cow_slice_items checker.object ≡ object
  pub walked : HasWalked checker datagrams

-- where the check of these datagrams stands: it goes on, or has its reason, or lacked memory, after
-- which nothing is known
abbrev pub StandsAt : Option (Result Reason AllocError) → Checker → Identity → List ℕ → Certificate
    → List (List ℕ) → Type 0
StandsAt None checker who object z datagrams = IsWalkOver checker who object z datagrams
StandsAt (Some (Ok reason)) checker who object z datagrams =
    IsNoToAll who datagrams object z reason
StandsAt (Some (Err e)) checker who object z datagrams = Unit {0}

-- these datagrams were fed to a checker of this identity's packets, with this object and this
-- certificate
pub record IsFed (checker : Checker) (who : Identity) (object : List ℕ) (z : Certificate)
    (datagrams : List (List ℕ)) : Type 0 where
  pub each : AreDatagrams datagrams
  pub stands : StandsAt checker.ended checker who object z datagrams

-- how the check has ended, if it has: for a reason, or for want of memory
abbrev pub ended_of : Checker → Option (Result Reason AllocError)
ended_of checker = checker.ended

-- some datagrams were fed to it
pub record WasFed (checker : Checker) : Type 0 where
  pub who : Identity
  pub object : List ℕ
  pub z : Certificate
  pub datagrams : List (List ℕ)
  pub fed : IsFed checker who object z datagrams

-- none was
pub record IsFresh (checker : Checker) : Type 0 where
  pub who : Identity
  pub object : List ℕ
  pub z : Certificate
  pub fed : IsFed checker who object z []
  pub going : checker.ended ≡ None

-- datagrams were fed to it whose verdict is that this block is the least with too few symbols
pub record IsFedShort (checker : Checker) (b : ℕ) : Type 0 where
  pub who : Identity
  pub object : List ℕ
  pub z : Certificate
  pub datagrams : List (List ℕ)
  pub fed : IsFed checker who object z datagrams
  pub short : IsShortIn who datagrams object z b

-- why no more was read: the reader's end, or the reason, for which no more is needed
abbrev pub StopsBy : Option (Result Reason AllocError) → Identity → List ℕ → Certificate
    → List (List ℕ) → Option (List ℕ) → Type 0
StopsBy None who object z datagrams left = IsAtEnd left
StopsBy (Some (Ok reason)) who object z datagrams left = IsKnown (read_for (No reason)) datagrams
    left (λ all. IsVerdict who all object z (No reason))
StopsBy (Some (Err e)) who object z datagrams left = ⊥

-- what was left of a reader was fed to it, all of it or as far as the first reason
pub record HasRead (checker : Checker) (who : Identity) (object : List ℕ) (z : Certificate)
    (old new : Option (List ℕ)) : Type 0 where
  pub datagrams : List (List ℕ)
  pub fed : IsFed checker who object z datagrams
  pub consumed : Consumes old new (frames datagrams)
  pub stops : StopsBy checker.ended who object z datagrams new

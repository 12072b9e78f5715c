-- What the decoder answers to a session's bytes.
use Rattle.std.specs.Prelude.{◌≡◌, ℕ, List, Option}
use Rattle.session.specs.Frames.{IsFramed}
use Rattle.partition.specs.Fti.{Fti}
use Rattle.reception.specs.declared.scope.Identity.{Identity}
use Rattle.reception.specs.declared.scope.Scope.{Scope}
use Rattle.reception.specs.Answer.{Answer, IsAnswer}
use Rattle.reception.specs.Found.{IsScopeOf}

-- the bytes are the frames of datagrams, and this is the decoder's answer to them
pub record IsDecoded (who : Identity) (session : List ℕ) (answer : Answer) : Type 0 where
  pub datagrams : List (List ℕ)
  pub framed : IsFramed datagrams session
  pub answers : IsAnswer who datagrams answer

-- the bytes are the frames of datagrams, and this is the FTI of the first carrier among them
pub record HasFti (who : Identity) (session : List ℕ) (fti : Option Fti) : Type 0 where
  pub datagrams : List (List ℕ)
  pub framed : IsFramed datagrams session
  pub scope : Scope
  pub found : IsScopeOf who datagrams scope
  pub known : scope.fti ≡ fti

-- A checker that was made of what C passes.
use Rattle.std.specs.Prelude.{◌≡◌, ℕ, true, List, [], None}
use Rattle.reception.specs.declared.scope.Identity.{Identity}
use Rattle.reception.specs.Symbols.{IsObject}
use Rattle.certificate.specs.Certificate.{Certificate, IsCertificate, certificate_text, is_for}
use Rattle.cert.specs.Fed.{IsFed, ended_of}
use Rattle.cert.specs.Verdict.{GivesObject}
use Rattle.cert.specs.declared.checker.Checker.{Checker}

-- The certificate's bytes are a certificate's, which has no other identity's name and gives the
-- object, and the checker is one for it that goes on and was fed nothing.
pub record IsReady (who : Identity) (object certificate : List ℕ) (checker : Checker) : Type 0 where
  pub z : Certificate
  pub is : IsCertificate z
  pub text : certificate ≡ certificate_text z
  pub fed : IsFed checker who object z []
  pub going : ended_of checker ≡ None
  pub name : is_for who z.name ≡ true
  pub form : IsObject z.fti object
  pub gives : GivesObject object z

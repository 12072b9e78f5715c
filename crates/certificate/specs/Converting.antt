-- A certificate's file that is given a name, block by block.
use Rattle.std.specs.Prelude.{◌≡◌, ◌⊎◌, ℕ, ◌<◌, ◌+◌, List, take, length, Bool, true, false, Option}
use Rattle.std.specs.Prelude.{IfSome}
use Rattle.std.specs.Io.KnownBytes.{Appends}
use Rattle.lists.specs.Bytes.{AreBytes}
use Rattle.session.specs.Pieces.{AppendsSome}
use Rattle.partition.specs.Fti.{Fti}
use Rattle.reception.specs.declared.scope.Identity.{Identity}
use Rattle.certificate.specs.declared.certificate.CertFault.{CertFault}
use Rattle.certificate.specs.declared.certificate.CertFault.TheVariants.{Magic, Fti as WrongFti}
use Rattle.certificate.specs.declared.certificate.CertFault.TheVariants.{OtherIdentity}
use Rattle.certificate.specs.declared.converting.ConvertFault.{ConvertFault}
use Rattle.certificate.specs.declared.converting.ConvertFault.TheVariants.{Certificate as InText}
use Rattle.certificate.specs.declared.converting.ConvertFault.TheVariants.{Write}
use Rattle.certificate.specs.Certificate.{Certificate, IsCertificate, is_for, named_as}
use Rattle.certificate.specs.Certificate.{certificate_text}
use Rattle.certificate.specs.Certificate.{IsCertFault}

-- what was left is the text of a certificate of this FTI, without a name or with this one, and what
-- was written is the text of the same certificate with this name
pub record IsConverted (who : Identity) (f : Fti) (left old new : Option (List ℕ)) : Type 0 where
  pub certificate : Certificate
  pub form : IsCertificate certificate
  pub fti : certificate.fti ≡ f
  pub own : is_for who certificate.name ≡ true
  pub text : IfSome left (λ x. x ≡ certificate_text certificate)
  pub gained : Appends old new (certificate_text (named_as who certificate))

-- a certificate without a name or with this one, whose text and what was left are the same as far
-- as both go
abbrev pub CanBe : Identity → Option (List ℕ) → Certificate → Type 0
CanBe who left z =
    IsCertificate z × (is_for who z.name ≡ true)
    × IfSome left (λ x. take (length x) (certificate_text z) ≡ take (length (certificate_text z)) x)

-- What was written at a fault begins the text, with this name, of each certificate that what was
-- left can be. If anything was written and bytes were left, they can be one.
pub record BeginsConverted (who : Identity) (left old new : Option (List ℕ)) : Type 0 where
  pub some : (new ≡ old)
      ⊎ (IfSome left AreBytes → (z : Certificate) × CanBe who left z
      × AppendsSome old new (certificate_text (named_as who z)))
  pub each : IfSome left
      (λ _. (z : Certificate) → CanBe who left z
      → AppendsSome old new (certificate_text (named_as who z)))

-- the text of a certificate with another name
abbrev pub IsOfOther : Identity → List ℕ → Type 0
IsOfOther who x =
    (z : Certificate) × IsCertificate z × (is_for who z.name ≡ false) × (x ≡ certificate_text z)

-- why a certificate wasn't given the name, by what the reader held before, and whether it has
-- failed
abbrev pub IsNameFault : CertFault → Identity → Option (List ℕ) → Bool → Type 0
IsNameFault OtherIdentity who left failed = IfSome left (IsOfOther who)
IsNameFault fault who left failed = IsCertFault fault left failed

-- Why a file wasn't converted. With a name it is at most twenty bytes longer.
abbrev pub IsConvertFault : ConvertFault → Identity → Option (List ℕ) → Bool → ℕ → Bool → Type 0
IsConvertFault (InText e) who left reader_failed _ _ = IsNameFault e who left reader_failed
IsConvertFault Write who left reader_failed room writer_failed =
    (writer_failed ≡ true) × IfSome left (λ x. room < length x + 20)

-- what the first bytes tell, or the name
abbrev pub IsBeforeAll : ConvertFault → Type 0
IsBeforeAll (InText Magic) = Unit {0}
IsBeforeAll (InText (WrongFti e)) = Unit {0}
IsBeforeAll (InText OtherIdentity) = Unit {0}
IsBeforeAll _ = ⊥

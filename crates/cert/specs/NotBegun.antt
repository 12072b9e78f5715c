-- Why no datagram is looked at.
use Rattle.std.specs.Prelude.{◌≡◌, ◌≢◌, ℕ, true, false, List, length}
use Rattle.reception.specs.declared.scope.Identity.{Identity}
use Rattle.cert.specs.declared.verdict.Reason.{Reason}
use Rattle.cert.specs.declared.verdict.Reason.TheVariants.{OtherCertificate, ObjectLength}
use Rattle.cert.specs.declared.verdict.Reason.TheVariants.{NotObject}
use Rattle.certificate.specs.Certificate.{Certificate, is_for}
use Rattle.cert.specs.Verdict.{IsFirstNotGiven}

-- a reason against the certificate's name or the object, whatever datagrams come
abbrev pub IsAgainstObject : Identity → List ℕ → Certificate → Reason → Type 0
IsAgainstObject who object z OtherCertificate = is_for who z.name ≡ false
IsAgainstObject who object z ObjectLength =
    (is_for who z.name ≡ true) × (length object ≢ z.fti.transfer_length)
IsAgainstObject who object z (NotObject b c i) =
    (is_for who z.name ≡ true) × (length object ≡ z.fti.transfer_length)
    × IsFirstNotGiven object z b c i
IsAgainstObject who object z _ = ⊥

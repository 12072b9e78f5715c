-- What certifying an object promises of the sessions that are sent of it.
use Rattle.std.specs.Prelude.{◌≡◌, ◌≢◌, ◌⊎◌, ℕ, ◌<◌, ◌≤◌, ◌*◌, ◌^◌, Bool, true, List, ◌++◌, length}
use Rattle.std.specs.Prelude.{Option, Some, None}
use Rattle.std.specs.Io.KnownBytes.{Appends}
use Rattle.lists.specs.Bytes.{AreBytes}
use Rattle.partition.specs.Fti.{Fti, block_count, start_of}
use Rattle.alc.specs.Reading.{Reading}
use Rattle.reception.specs.declared.scope.Identity.{Identity}
use Rattle.reception.specs.Reception.{ReadAll}
use Rattle.certificate.specs.Certificate.{Certificate, IsCertificate, unnamed, named_as, head_text}
use Rattle.certificate.specs.Certificate.{certificate_text}
use Rattle.cert.specs.declared.verdict.Verdict.{Verdict}
use Rattle.cert.specs.Verdict.{GivesObject, IsCertificateOf, IsVerdict, IsYes, GivesBlock}
use Rattle.session.specs.Pieces.{AppendsSome}
use Rattle.encoder.specs.declared.certifying.CertifyFault.{CertifyFault}
use Rattle.encoder.specs.declared.certifying.CertifyFault.TheVariants.{Length, Io, NoMemory}
use Rattle.partition.specs.declared.order.Order.{Order}
use Rattle.encoder.specs.Sending.{IsSessionOf}

-- the certificate is one of this identity's packets in a session, and of this object
pub record Certifies (who : Identity) (z : Certificate) (object : List ℕ)
    (session : List (List ℕ)) : Type 0 where
  pub readings : List Reading
  pub read : ReadAll session readings
  pub granted : IsCertificateOf who readings object z

-- this holds of every session that is sent of the object, and of its identity
abbrev pub OfEachSent : List ℕ → Fti → (Identity → List (List ℕ) → Type 0) → Type 0
OfEachSent object f Holds =
    (tsi toi every : ℕ) (order : Order) (session : List (List ℕ)) → tsi < 2 ^ 32 → toi < 2 ^ 32
    → 1 ≤ every
    → IsSessionOf object f tsi toi every order session
    → Holds (record { tsi = tsi; toi = toi }) session

-- the certificate is one of every such session, and so is its form with the name of the session's
-- identity
abbrev pub CertifiesSent : List ℕ → Certificate → Type 0
CertifiesSent object z =
    OfEachSent object z.fti
    (λ who session. Certifies who z object session
    × Certifies who (named_as who z) object session)

-- a check of any such session, of its identity, says yes, with the one and with the other
abbrev pub ChecksYes : List ℕ → Certificate → Type 0
ChecksYes object z = OfEachSent object z.fti (λ who session. (verdict : Verdict)
    → IsVerdict who session object z verdict ⊎ IsVerdict who session object (named_as who z) verdict
    → IsYes verdict)

-- why an object wasn't certified
abbrev pub IsCertifyFault : CertifyFault → List ℕ → Fti → Type 0
IsCertifyFault Length object f = length object ≢ f.transfer_length
IsCertifyFault Io object f = ⊥
IsCertifyFault NoMemory object f = length object ≡ f.transfer_length

-- ---- written block by block

-- the rows of the first n blocks: a certificate that begins with them gives the object's symbols in
-- these blocks
pub record AreFirstRows (object : List ℕ) (f : Fti) (n : ℕ) (rows : List ℕ) : Type 0 where
  pub count : length rows ≡ start_of f n * f.symbol_length
  pub bytes : AreBytes rows
  pub gives : (b : ℕ) (later : List ℕ) → b < n → GivesBlock object (unnamed f (rows ++ later)) b

-- a beginning of the rows of the first blocks was written, and what stands before them
pub record BeginsRows (object : List ℕ) (f : Fti) (head : List ℕ)
    (old new : Option (List ℕ)) : Type 0 where
  pub blocks : ℕ
  pub inside : blocks ≤ block_count f
  pub rows : List ℕ
  pub first : AreFirstRows object f blocks rows
  pub gained : AppendsSome old new (head ++ rows)

-- what was written is the text, with this name, of a certificate that `certify` can make of the
-- object
pub record IsCertifiedTo (object : List ℕ) (f : Fti) (who : Identity)
    (old new : Option (List ℕ)) : Type 0 where
  pub certificate : Certificate
  pub form : IsCertificate certificate
  pub fti : certificate.fti ≡ f
  pub name : certificate.name ≡ None
  pub gives : GivesObject object certificate
  pub certifies : CertifiesSent object certificate
  pub gained : Appends old new (certificate_text (named_as who certificate))

-- why no certificate was written, or only a beginning
abbrev pub IsCertifyToFault : CertifyFault → List ℕ → Fti → Identity → Option (List ℕ)
    → Option (List ℕ) → Bool → Type 0
IsCertifyToFault Io object f who old new failed =
    (length object ≡ f.transfer_length) × BeginsRows object f (head_text (Some who) f) old new
    × (failed ≡ true)
IsCertifyToFault fault object f who old new failed = IsCertifyFault fault object f × (new ≡ old)

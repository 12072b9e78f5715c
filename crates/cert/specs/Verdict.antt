-- What a check of a session, an object and a certificate answers.
use Rattle.std.specs.Prelude.{◌≡◌, ◌≢◌, true, false, not, ℕ, ◌<◌, ◌==◌, List, [], ◌∷◌, find, length}
use Rattle.std.specs.Prelude.{slice_index, Option, Some, None, Ok, Err, option_map}
use Rattle.std.specs.List.{list_any, AllByRecursion}
use Rattle.partition.specs.Fti.{Fti, source_count, block_count, source_byte, has_symbol}
use Rattle.alc.specs.Packet.{Packet}
use Rattle.alc.specs.Reading.{Reading}
use Rattle.cert.specs.declared.verdict.Verdict.{Verdict}
use Rattle.cert.specs.declared.verdict.Verdict.TheVariants.{Yes, No}
use Rattle.cert.specs.declared.verdict.Reason.{Reason}
use Rattle.cert.specs.declared.verdict.Reason.TheVariants.{OtherCertificate, ObjectLength}
use Rattle.cert.specs.declared.verdict.Reason.TheVariants.{NotObject, Empty, Packet as NoPacket}
use Rattle.cert.specs.declared.verdict.Reason.TheVariants.{OtherFti, SymbolLength, Range, Symbol}
use Rattle.cert.specs.declared.verdict.Reason.TheVariants.{Thin, NoCarrier}
use Rattle.reception.specs.declared.scope.Identity.{Identity}
use Rattle.reception.specs.Symbols.{arrived_count, IsFirstShort, IsObject}
use Rattle.certificate.specs.Certificate.{Certificate, is_for, certified_byte}
use Rattle.reception.specs.Reception as reception
use Rattle.reception.specs.Reception.{ReadAll, Judge, Wrong, Faulty, Judged, Reception, counted}
use Rattle.reception.specs.Reception.{symbols, reception_with, with_fti, is_carrier, Suffices}
use Rattle.lists.specs.Below.{below}
use Rattle.losses.specs.Losses.{IsBefore}

abbrev pub GivesAt : List ℕ → Certificate → ℕ → ℕ → ℕ → Type 0
GivesAt object z b c i = certified_byte z b i c ≡ source_byte z.fti object b i c

-- the polynomials give a block of the object
abbrev pub GivesBlock : List ℕ → Certificate → ℕ → Type 0
GivesBlock object z b =
    (c i : ℕ) → c < z.fti.symbol_length → i < source_count z.fti b → GivesAt object z b c i

-- the polynomials give the object at every source point
abbrev pub GivesObject : List ℕ → Certificate → Type 0
GivesObject object z =
    (b c i : ℕ) → b < block_count z.fti → c < z.fti.symbol_length → i < source_count z.fti b
    → GivesAt object z b c i

-- the first source point at which they don't: the least block, in it the least column, in that the
-- least symbol
pub record IsFirstNotGiven (object : List ℕ) (z : Certificate) (b c i : ℕ) : Type 0 where
  pub block : b < block_count z.fti
  pub column : c < z.fti.symbol_length
  pub symbol : i < source_count z.fti b
  pub wrong : ¬ GivesAt object z b c i
  pub before : (x y n : ℕ) → IsBefore (x ∷ y ∷ n ∷ []) (b ∷ c ∷ i ∷ []) → y < z.fti.symbol_length
      → n < source_count z.fti x
      → GivesAt object z x y n

-- what a check says against a symbol in range: the least column in which it isn't the certified one
abbrev pub uncertified : Certificate → Judge ℕ
uncertified z earlier s =
    find (λ c. not (slice_index s.bytes c == certified_byte z s.block s.esi c))
    (below z.fti.symbol_length)

-- what came, to a check of this identity's packets, which knows the certificate's FTI before
abbrev pub reception_to : Identity → Certificate → List Reading → Reception ℕ
reception_to who z rs = reception_with (uncertified z) (with_fti who z.fti) rs

-- the reason that something is wrong at a place
abbrev pub reason_at : ℕ → Wrong ℕ → Reason
reason_at i (Faulty (reception.NoPacket r)) = NoPacket i r
reason_at i (Faulty reception.OtherFti) = OtherFti i
reason_at i (Faulty reception.SymbolLength) = SymbolLength i
reason_at i (Faulty reception.Range) = Range i
reason_at i (Judged c) = Symbol i c

-- the reason at the least place that has one, and there the first
abbrev pub first_reason : Identity → Certificate → List Reading → Option Reason
first_reason who z rs = option_map (λ x. reason_at x.0 x.1) (reception_to who z rs).wrong

-- the packet carries no other FTI than the certificate's, has a symbol as long as that tells, is in
-- range, and has the certified symbol
pub record IsCertifiedPacket (z : Certificate) (p : Packet) : Type 0 where
  pub fti : (f : Fti) → p.fti ≡ Some f → f ≡ z.fti
  pub size : length p.bytes ≡ z.fti.symbol_length
  pub range : has_symbol z.fti p.block p.esi ≡ true
  pub symbol : (c : ℕ) → c < z.fti.symbol_length
      → slice_index p.bytes c ≡ certified_byte z p.block p.esi c

abbrev pub IsCertifiedReading : Certificate → Reading → Type 0
IsCertifiedReading z (Ok p) = IsCertifiedPacket z p
IsCertifiedReading z (Err r) = ⊥

-- some of the identity's packets came, and each reading that counts is a packet as certified
pub record AreCertified (who : Identity) (rs : List Reading) (z : Certificate) : Type 0 where
  pub some : symbols (counted who rs) ≢ []
  pub packets : AllByRecursion (λ x. IsCertifiedReading z x.reading) (counted who rs)

-- the certificate is one of the identity's packets among these readings, and of this object, and
-- has no other's name
pub record IsCertificateOf (who : Identity) (rs : List Reading) (object : List ℕ)
    (z : Certificate) : Type 0 where
  pub name : is_for who z.name ≡ true
  pub form : IsObject z.fti object
  pub gives : GivesObject object z
  pub certified : AreCertified who rs z
  pub full : Suffices who z.fti rs
  pub carrier : list_any (is_carrier who) rs ≡ true

-- why the readings don't have the certificate, where it gives the object: the first that is wrong
-- at a place; none of the identity's packets came; a short block; none of the packets is a carrier
abbrev pub IsAgainst : Identity → List Reading → Certificate → Reason → Type 0
IsAgainst who rs z Empty = (first_reason who z rs ≡ None) × (symbols (counted who rs) ≡ [])
IsAgainst who rs z (Thin b have need) =
    (first_reason who z rs ≡ None) × (symbols (counted who rs) ≢ [])
    × IsFirstShort z.fti (symbols (counted who rs)) b
    × (have ≡ arrived_count (symbols (counted who rs)) b) × (need ≡ source_count z.fti b)
IsAgainst who rs z NoCarrier =
    (first_reason who z rs ≡ None) × (symbols (counted who rs) ≢ []) × Suffices who z.fti rs
    × (list_any (is_carrier who) rs ≡ false)
IsAgainst who rs z reason = first_reason who z rs ≡ Some reason

-- Yes where the certificate is one, and each no the first reason in this order.
abbrev pub VerdictOn : Identity → List Reading → List ℕ → Certificate → Verdict → Type 0
VerdictOn who rs object z (Yes report) = IsCertificateOf who rs object z
VerdictOn who rs object z (No OtherCertificate) = is_for who z.name ≡ false
VerdictOn who rs object z (No ObjectLength) =
    (is_for who z.name ≡ true) × (length object ≢ z.fti.transfer_length)
VerdictOn who rs object z (No (NotObject b c i)) =
    (is_for who z.name ≡ true) × (length object ≡ z.fti.transfer_length)
    × IsFirstNotGiven object z b c i
VerdictOn who rs object z (No reason) =
    (is_for who z.name ≡ true) × IsObject z.fti object × GivesObject object z
    × IsAgainst who rs z reason

-- the verdict on a session, an object and a certificate, where this identity's packets are asked
-- for
pub record IsVerdict (who : Identity) (datagrams : List (List ℕ)) (object : List ℕ)
    (z : Certificate) (verdict : Verdict) : Type 0 where
  pub readings : List Reading
  pub read : ReadAll datagrams readings
  pub judged : VerdictOn who readings object z verdict

-- the block that is short, how many symbols it has and how many it needs, where that is the reason
abbrev pub short_of : Reason → Option (ℕ × ℕ × ℕ)
short_of (Thin block have need) = Some (block, have, need)
short_of _ = None

-- both yes, or both no for one reason
abbrev pub AreOneVerdict : Verdict → Verdict → Type 0
AreOneVerdict (Yes r) (Yes s) = Unit {0}
AreOneVerdict (No r) (No s) = r ≡ s
AreOneVerdict _ _ = ⊥

abbrev pub IsYes : Verdict → Type 0
IsYes (Yes report) = Unit {0}
IsYes (No reason) = ⊥

-- The certificate: an FTI, for each byte column of each block the coefficients of its polynomial,
-- and maybe whose it is.
use Rattle.std.specs.Prelude.{◌≡◌, ℕ, ◌+◌, ◌-◌, ◌*◌, ◌^◌, ◌<◌, List, [], ◌∷◌, ◌++◌, length, drop}
use Rattle.std.specs.Prelude.{map, flat_map, slice_index, nat_eq, nat_lt, ◌==◌, ◌&&◌, Bool, true}
use Rattle.std.specs.Prelude.{if◌then◌else◌, Option, Some, None, IfSome}
use Rattle.std.specs.List.{starts_with}
use Rattle.byteorder.specs.Endian.{big_bytes, big_number}
use Rattle.lists.specs.Below.{below}
use Rattle.lists.specs.Bytes.{AreBytes}
use Rattle.gf256.specs.Arithmetic.{point}
use Rattle.poly.specs.Polynomial.{value}
use Rattle.partition.specs.Fti.{Fti, IsValidFti, symbol_count, block_count, source_count}
use Rattle.partition.specs.Fti.{source_place, fti_from}
use Rattle.partition.specs.FtiBytes.{bytes_of_fti}
use Rattle.partition.specs.FtiFault.{fti_fault}
use Rattle.partition.specs.declared.FtiError.{FtiError}
use Rattle.reception.specs.declared.scope.Identity.{Identity}
use Rattle.certificate.specs.declared.certificate.CertFault.{CertFault}
use Rattle.certificate.specs.declared.certificate.CertFault.TheVariants.{Magic, Fti as WrongFti}
use Rattle.certificate.specs.declared.certificate.CertFault.TheVariants.{Size, Io}
use Rattle.certificate.specs.declared.certificate.CertFault.TheVariants.{NoMemory, OtherIdentity}

-- Coefficient i of a column's polynomial stands where byte c of source symbol i stands in an
-- object: row by row.
pub record Certificate : Type 0 where
  pub fti : Fti
  pub name : Option Identity
  pub coefficients : List ℕ

abbrev pub unnamed : Fti → List ℕ → Certificate
unnamed f coefficients = record { fti = f; name = None; coefficients = coefficients }

abbrev pub named_as : Identity → Certificate → Certificate
named_as who z = record { fti = z.fti; name = Some who; coefficients = z.coefficients }

-- a certificate with this name can be one of the identity's packets: it has no name, or this one
abbrev pub is_for : Identity → Option Identity → Bool
is_for who None = true
is_for who (Some name) = name.tsi == who.tsi && name.toi == who.toi

-- how many coefficients: as many as the object has source symbols, in each byte column
abbrev pub coefficient_count : Fti → ℕ
coefficient_count f = symbol_count f * f.symbol_length

-- a TSI of at most six bytes and a TOI of at most fourteen (RFC 5651, section 5.1)
pub record IsIdentity (who : Identity) : Type 0 where
  pub tsi : who.tsi < 2 ^ 48
  pub toi : who.toi < 2 ^ 112

pub record IsCertificate (z : Certificate) : Type 0 where
  pub fti : IsValidFti z.fti
  pub name : (who : Identity) → z.name ≡ Some who → IsIdentity who
  pub count : length z.coefficients ≡ coefficient_count z.fti
  pub bytes : AreBytes z.coefficients

-- coefficient i of the polynomial of column c of block b
abbrev pub coefficient : Certificate → ℕ → ℕ → ℕ → ℕ
coefficient z b c i = slice_index z.coefficients (source_place z.fti b i c)

-- a row of coefficients: that of each column of block b
abbrev pub IsRowOf : Certificate → ℕ → ℕ → List ℕ → Type 0
IsRowOf z b i row = (c : ℕ) → c < z.fti.symbol_length → slice_index row c ≡ coefficient z b c i

-- that polynomial
unfoldable pub polynomial : Certificate → ℕ → ℕ → List ℕ
polynomial z b c = map (coefficient z b c) (below (source_count z.fti b))

-- what the certificate says of symbol j of block b in column c
abbrev pub certified_byte : Certificate → ℕ → ℕ → ℕ → ℕ
certified_byte z b j c = value (polynomial z b c) (point j)

-- ---- its bytes

-- RSC1, of a certificate without a name
abbrev pub magic : List ℕ
magic = 0x52 ∷ 0x53 ∷ 0x43 ∷ 0x31 ∷ []

-- RSC2, of one with a name
abbrev pub magic_of_named : List ℕ
magic_of_named = 0x52 ∷ 0x53 ∷ 0x43 ∷ 0x32 ∷ []

-- TSI and TOI in twenty bytes
abbrev pub name_text : Identity → List ℕ
name_text who = big_bytes 6 who.tsi ++ big_bytes 14 who.toi

-- what stands before the coefficients
unfoldable pub head_text : Option Identity → Fti → List ℕ
head_text None f = magic ++ bytes_of_fti f
head_text (Some who) f = magic_of_named ++ name_text who ++ bytes_of_fti f

-- a block's coefficients column by column, in a column the constant one first
abbrev pub block_columns : Certificate → ℕ → List ℕ
block_columns z b = flat_map (polynomial z b) (below z.fti.symbol_length)

-- blocks rising: without a name column by column, with one row by row, as they are held
abbrev pub coefficients_text : Option Identity → Certificate → List ℕ
coefficients_text None z = flat_map (block_columns z) (below (block_count z.fti))
coefficients_text (Some who) z = z.coefficients

-- the certificate's bytes
abbrev pub certificate_text : Certificate → List ℕ
certificate_text z = head_text z.name z.fti ++ coefficients_text z.name z

-- the text of a certificate
abbrev pub IsTextOfSome : List ℕ → Type 0
IsTextOfSome x = (z : Certificate) × IsCertificate z × (x ≡ certificate_text z)

-- ---- what bytes tell

-- the FTI in ten bytes from a place on
abbrev pub told_fti : ℕ → List ℕ → Fti
told_fti from x =
    fti_from (big_number 6 (drop from x)) (big_number 2 (drop (from + 6) x))
    (slice_index x (from + 8)) (slice_index x (from + 9))

abbrev pub size_fault : ℕ → List ℕ → Option FtiError → Option CertFault
size_fault head x (Some e) = Some (WrongFti e)
size_fault head x None =
    if length x == head + coefficient_count (told_fti (head - 10) x) then None else Some Size

-- the fault behind the magic number of a head so long
abbrev pub fault_behind : ℕ → List ℕ → Option CertFault
fault_behind head x =
    if nat_lt (length x) head then Some Size
    else size_fault head x (fti_fault (told_fti (head - 10) x))

-- why these bytes are no certificate's, if they aren't, in the order in which they come
unfoldable pub text_fault : List ℕ → Option CertFault
text_fault x =
    if starts_with nat_eq x magic then fault_behind 14 x
    else if starts_with nat_eq x magic_of_named then fault_behind 34 x
    else Some Magic

-- why no certificate was read, by what the reader held before, and whether it has failed
abbrev pub IsCertFault : CertFault → Option (List ℕ) → Bool → Type 0
IsCertFault Io old failed = failed ≡ true
IsCertFault NoMemory old failed = Unit {0}
IsCertFault OtherIdentity old failed = ⊥
IsCertFault fault old failed = IfSome old (λ x. text_fault x ≡ Some fault)

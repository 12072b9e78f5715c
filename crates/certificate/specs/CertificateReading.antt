-- What is known of a certificate while it is read.
use Rattle.std.specs.Prelude.{◌≡◌, ℕ, ◌<◌, List, [], ◌++◌, length, drop, nat_eq, if◌then◌else◌}
use Rattle.std.specs.Prelude.{Bool, true, Some, None, IfSome}
use Rattle.std.specs.List.{starts_with}
use Rattle.byteorder.specs.Endian.{big_number}
use Rattle.partition.specs.FtiFault.{fti_fault}
use Rattle.reception.specs.declared.scope.Identity.{Identity}
use Rattle.certificate.specs.declared.certificate.CertFault.{CertFault}
use Rattle.certificate.specs.declared.certificate.CertFault.TheVariants.{Size, Io, NoMemory}
use Rattle.certificate.specs.declared.certificate.CertFault.TheVariants.{OtherIdentity}
use Rattle.certificate.specs.declared.head.Head.{Head}
use Rattle.certificate.specs.Certificate.{IsIdentity, magic_of_named, head_text, text_fault}

-- how long a head with this magic number is, and where its FTI begins
abbrev pub head_length : List ℕ → ℕ
head_length x = if starts_with nat_eq x magic_of_named then 34 else 14

-- TSI and TOI in twenty bytes
abbrev pub told_name : List ℕ → Identity
told_name x = record { tsi = big_number 6 x; toi = big_number 14 (drop 6 x) }

-- coefficients are refused for their size, or for want of memory, or because the reader has failed
abbrev pub IsReadFault : CertFault → Bool → Type 0
IsReadFault Io failed = failed ≡ true
IsReadFault NoMemory failed = Unit {0}
IsReadFault Size failed = Unit {0}
IsReadFault _ failed = ⊥

-- a fault that bytes tell
abbrev pub IsTold : CertFault → Type 0
IsTold Io = ⊥
IsTold NoMemory = ⊥
IsTold OtherIdentity = ⊥
IsTold _ = Unit {0}

-- the fault of a text that begins with these bytes, of which there are fewer than a head has only
-- where it ends
abbrev pub IsHeadFault : List ℕ → CertFault → Type 0
IsHeadFault x e =
    (rest : List ℕ) → (length x < head_length x → rest ≡ []) → text_fault (x ++ rest) ≡ Some e

-- bytes that are this head, of a valid FTI
pub record IsHeadOf (x : List ℕ) (h : Head) : Type 0 where
  pub text : x ≡ head_text h.name h.fti
  pub name : IfSome h.name IsIdentity
  pub good : fti_fault h.fti ≡ None

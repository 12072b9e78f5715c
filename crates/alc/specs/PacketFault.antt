-- Why a datagram is no packet: the first fault, in the order of the variants of PacketFault; those
-- of the header extensions go by the extension at which reading stops.
use Rattle.std.specs.Prelude.{◌≡◌, ℕ, ◌+◌, ◌-◌, ◌*◌, ◌/◌, ◌%◌, ◌<◌, ◌≤◌, ◌⊎◌, Bool, true, ◌&&◌}
use Rattle.std.specs.Prelude.{◌||◌, ◌==◌, not, List, ◌++◌, length, take, drop, slice_index}
use Rattle.std.specs.Prelude.{count_by, ◌^◌, Option, Some, None}
use Rattle.std.specs.List.{list_all, list_any}
use Rattle.partition.specs.Fti.{Fti}
use Rattle.partition.specs.FtiFault.{fti_fault}
use Rattle.alc.specs.Packet.{Packet, IsPacket, IsSymbolLength, is_extension, type_of, joined}
use Rattle.alc.specs.Packet.{fti_extension}
use Rattle.alc.specs.declared.fault.PacketFault.{PacketFault}
use Rattle.alc.specs.declared.fault.PacketFault.TheVariants.{TooShort, Version, Psi, Codepoint}
use Rattle.alc.specs.declared.fault.PacketFault.TheVariants.{NoIdentity, HeaderLength, Extension}
use Rattle.alc.specs.declared.fault.PacketFault.TheVariants.{FtiLength, TwoFti, FtiValue}
use Rattle.alc.specs.declared.fault.PacketFault.TheVariants.{PayloadLength}
use Rattle.std.specs.Str.{bytes_eq}

-- the numbers in the first bytes, whatever they are
abbrev pub c_of : List ℕ → ℕ
c_of d = slice_index d 0 / 4 % 4

abbrev pub s_of : List ℕ → ℕ
s_of d = slice_index d 1 / 128

abbrev pub o_of : List ℕ → ℕ
o_of d = slice_index d 1 / 32 % 4

abbrev pub h_of : List ℕ → ℕ
h_of d = slice_index d 1 / 16 % 2

abbrev pub fixed_words : List ℕ → ℕ
fixed_words d = 2 + c_of d + s_of d + o_of d + h_of d

abbrev pub header_end : List ℕ → ℕ
header_end d = 4 * slice_index d 2

abbrev pub extension_bytes : List ℕ → List ℕ
extension_bytes d = take (header_end d - 4 * fixed_words d) (drop (4 * fixed_words d) d)

-- a whole extension without a fault, as far as itself can tell
abbrev pub is_sound : List ℕ → Bool
is_sound e = is_extension e && (not (type_of e == 64) || length e == 12)

abbrev pub is_fti : List ℕ → Bool
is_fti e = type_of e == 64

-- the extensions in front: sound, and at most one of them EXT_FTI
pub record AreSound (es : List (List ℕ)) : Type 0 where
  pub each : list_all is_sound es ≡ true
  pub one : count_by is_fti es ≤ 1

-- rest begins with this whole extension
abbrev pub BeginsWith : List ℕ → List ℕ → Type 0
BeginsWith rest e = (is_extension e ≡ true) × (more : List ℕ) × (rest ≡ e ++ more)

-- where the extensions stop being sound, and what stands there
pub record StopsAt (d : List ℕ) (es : List (List ℕ)) (rest : List ℕ) : Type 0 where
  pub whole : extension_bytes d ≡ joined es ++ rest
  pub front : AreSound es
  pub some : 0 < length rest

abbrev pub StopsBy : PacketFault → List (List ℕ) → List ℕ → Type 0
StopsBy Extension es rest = (e : List ℕ) → ¬ BeginsWith rest e
StopsBy FtiLength es rest =
    (e : List ℕ) × BeginsWith rest e × (is_fti e ≡ true) × (¬ (length e ≡ 12))
StopsBy TwoFti es rest =
    (e : List ℕ) × BeginsWith rest e × (is_fti e ≡ true) × (count_by is_fti es ≡ 1)
    × (length e ≡ 12)
StopsBy _ es rest = ⊥

-- the extensions are sound to the end
abbrev pub WalkEnds : List ℕ → List (List ℕ) → Type 0
WalkEnds d es = (extension_bytes d ≡ joined es) × AreSound es

-- The fields of an EXT_FTI: without these bounds every extension would also spell numbers that are
-- too large.
pub record HasFields (f : Fti) : Type 0 where
  pub length_below : f.transfer_length < 2 ^ 48
  pub symbol_below : f.symbol_length < 2 ^ 16
  pub block_below : f.block_length < 256
  pub max_below : f.max_symbols < 256

-- the extension with the FTI
abbrev pub Carries : List (List ℕ) → Fti → Type 0
Carries es f = HasFields f × (list_any (bytes_eq (fti_extension f)) es ≡ true)

-- the valid FTI that the extensions carry, or that they have none
abbrev pub CarriesValid : List (List ℕ) → Option Fti → Type 0
CarriesValid es None = count_by is_fti es ≡ 0
CarriesValid es (Some f) = Carries es f × (fti_fault f ≡ None)

-- what follows the header is a payload ID and a symbol
pub record HasPayload (d : List ℕ) (fti : Option Fti) : Type 0 where
  pub payload_id : header_end d + 4 ≤ length d
  pub symbol : IsSymbolLength fti (length d - (header_end d + 4))

-- what each fault says, the ones before it apart
abbrev pub FaultHolds : List ℕ → PacketFault → Type 0
FaultHolds d TooShort = length d < 4
FaultHolds d Version = ¬ (slice_index d 0 / 16 ≡ 1)
FaultHolds d Psi = ¬ (slice_index d 0 % 4 ≡ 0)
FaultHolds d Codepoint = ¬ (slice_index d 3 ≡ 5)
FaultHolds d NoIdentity = (s_of d + h_of d ≡ 0) ⊎ (o_of d + h_of d ≡ 0)
FaultHolds d HeaderLength = (slice_index d 2 < fixed_words d) ⊎ (length d < header_end d)
FaultHolds d (FtiValue x) =
    (es : List (List ℕ)) × (f : Fti) × WalkEnds d es × Carries es f × (fti_fault f ≡ Some x)
FaultHolds d PayloadLength =
    (es : List (List ℕ)) × (fti : Option Fti) × WalkEnds d es × CarriesValid es fti
    × (¬ HasPayload d fti)
FaultHolds d fault =
    (es : List (List ℕ)) × (rest : List ℕ) × StopsAt d es rest × StopsBy fault es rest

-- the place of a fault in the table; the three of one extension go by the extension
abbrev pub rank : PacketFault → ℕ
rank TooShort = 1
rank Version = 2
rank Psi = 3
rank Codepoint = 4
rank NoIdentity = 5
rank HeaderLength = 6
rank (FtiValue x) = 8
rank PayloadLength = 9
rank _ = 7

-- the datagram is no packet, and this is the first fault
pub record IsPacketFault (d : List ℕ) (r : PacketFault) : Type 0 where
  pub none : (p : Packet) → ¬ IsPacket d p
  pub holds : FaultHolds d r
  pub first : (q : PacketFault) → rank q < rank r → ¬ FaultHolds d q

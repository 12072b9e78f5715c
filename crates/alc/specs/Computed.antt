-- Reading as a function that computes: the packet of a datagram, or the first fault.
use Rattle.std.specs.Prelude.{ℕ, zero, suc, ◌+◌, ◌*◌, ◌/◌, ◌%◌, Bool, true, false, ◌||◌, ◌==◌}
use Rattle.std.specs.Prelude.{nat_le, nat_lt, is_some, if◌then◌else◌, not, List, [], ◌∷◌, length}
use Rattle.std.specs.Prelude.{take, drop, slice_index, Option, Some, None, Result, Ok, Err}
use Rattle.byteorder.specs.Endian.{big_number}
use Rattle.partition.specs.Fti.{Fti}
use Rattle.alc.specs.Packet.{Packet, type_of}
use Rattle.partition.specs.FtiFault.{fti_fault}
use Rattle.partition.specs.declared.FtiError.{FtiError}
use Rattle.alc.specs.PacketFault.{c_of, s_of, o_of, h_of, fixed_words, header_end, extension_bytes}
use Rattle.alc.specs.declared.fault.PacketFault.{PacketFault}
use Rattle.alc.specs.declared.fault.PacketFault.TheVariants.{TooShort, Version, Psi, Codepoint}
use Rattle.alc.specs.declared.fault.PacketFault.TheVariants.{NoIdentity, HeaderLength, Extension}
use Rattle.alc.specs.declared.fault.PacketFault.TheVariants.{FtiLength, TwoFti, FtiValue}
use Rattle.alc.specs.declared.fault.PacketFault.TheVariants.{PayloadLength}

-- the number that bytes stand for, the highest first
unfoldable pub number_of : List ℕ → ℕ
number_of xs = big_number (length xs) xs

-- so many bytes from a place on
abbrev pub part : ℕ → ℕ → List ℕ → List ℕ
part from size d = take size (drop from d)

-- the bytes that the extension in front takes
abbrev pub size_of : List ℕ → ℕ
size_of [] = 0
size_of (t ∷ []) = 4
size_of (t ∷ words ∷ rest) = if nat_le 128 t then 4 else 4 * words

-- the content of EXT_FTI among these extensions, of which one may have come before; or the first
-- fault
unfoldable pub walk : ℕ → List ℕ → Option (List ℕ) → Result (Option (List ℕ)) PacketFault
walk zero rest seen = Ok seen
walk (suc n) rest seen =
    elim (length rest == 0) [
      | true ↦ Ok seen
      | false ↦ elim (size_of rest == 0 || nat_lt (length rest) (size_of rest)) [
        | true ↦ Err Extension
        | false ↦ elim (type_of rest == 64) [
          | false ↦ walk n (drop (size_of rest) rest) seen
          | true ↦ elim (size_of rest == 12) [
            | false ↦ Err FtiLength
            | true ↦ elim (is_some seen) [
              | true ↦ Err TwoFti
              | false ↦ walk n (drop (size_of rest) rest) (Some (part 2 10 rest))
            ]
          ]
        ]
      ]
    ]

abbrev pub fti_in : List ℕ → Fti
fti_in e =
    record {
      transfer_length = number_of (part 0 6 e);
      symbol_length = number_of (part 6 2 e);
      block_length = slice_index e 8;
      max_symbols = slice_index e 9;
    }

abbrev pub packet_with : List ℕ → Option Fti → Packet
packet_with d fti = record {
  tsi = number_of (part (4 + 4 * (c_of d + 1)) (4 * s_of d + 2 * h_of d) d);
  toi =
      number_of
      (part (4 + 4 * (c_of d + 1) + (4 * s_of d + 2 * h_of d)) (4 * o_of d + 2 * h_of d) d);
  fti = fti;
  block = number_of (part (header_end d) 3 d);
  esi = slice_index d (header_end d + 3);
  bytes = drop (header_end d + 4) d;
}

-- whether what follows the header is a payload ID and a symbol
abbrev pub has_payload : List ℕ → Option Fti → Bool
has_payload d None = nat_lt (header_end d + 4) (length d)
has_payload d (Some f) = length d == header_end d + 4 + f.symbol_length

abbrev pub with_payload : List ℕ → Option Fti → Result Packet PacketFault
with_payload d fti = if has_payload d fti then Ok (packet_with d fti) else Err PayloadLength

abbrev pub with_fti : List ℕ → Fti → Option FtiError → Result Packet PacketFault
with_fti d f (Some x) = Err (FtiValue x)
with_fti d f None = with_payload d (Some f)

abbrev pub with_extensions : List ℕ → Result (Option (List ℕ)) PacketFault
    → Result Packet PacketFault
with_extensions d (Err r) = Err r
with_extensions d (Ok None) = with_payload d None
with_extensions d (Ok (Some e)) = with_fti d (fti_in e) (fti_fault (fti_in e))

unfoldable pub read_of : List ℕ → Result Packet PacketFault
read_of d =
    if nat_lt (length d) 4 then Err TooShort
    else if not (slice_index d 0 / 16 == 1) then Err Version
    else if not (slice_index d 0 % 4 == 0) then Err Psi
    else if not (slice_index d 3 == 5) then Err Codepoint
    else if s_of d + h_of d == 0 || o_of d + h_of d == 0 then Err NoIdentity
    else if nat_lt (slice_index d 2) (fixed_words d)
    || nat_lt (length d) (header_end d) then Err HeaderLength
    else with_extensions d (walk (length d) (extension_bytes d) None)

-- Datagrams worked by hand, computed from the definitions.
use Rattle.std.specs.Prelude.{◌≡◌, ℕ, List, [], ◌∷◌, ◌++◌, take, drop, map, refl, Some, None, Ok, Err}
use Rattle.std.proofs.Common.{set}
use Rattle.partition.specs.Fti.{fti_from, ceiling, symbol_count, block_count}
use Rattle.partition.specs.declared.FtiError.TheVariants.{LengthZero, SymbolZero, BlockZero, MaxBelowBlock}
use Rattle.alc.specs.Packet.{Packet, written}
use Rattle.alc.specs.Computed.{read_of, walk, number_of}
use Rattle.alc.specs.declared.fault.PacketFault.TheVariants.{TooShort, Version, Psi, Codepoint, NoIdentity, HeaderLength, Extension, FtiLength, TwoFti, FtiValue, PayloadLength}

abbrev packet : Packet
packet = record { tsi = 1; toi = 1; fti = Some (fti_from 2 1 2 3); block = 0; esi = 0; bytes = 1 ∷ [] }

abbrev datagram : List ℕ
datagram =
    0x10 ∷ 0xA0 ∷ 7 ∷ 5 ∷ 0 ∷ 0 ∷ 0 ∷ 0 ∷ 0 ∷ 0 ∷ 0 ∷ 1 ∷ 0 ∷ 0 ∷ 0 ∷ 1 ∷ 0x40 ∷ 3 ∷ 0 ∷ 0 ∷ 0 ∷ 0 ∷ 0 ∷ 2 ∷ 0 ∷ 1 ∷ 2 ∷ 3 ∷ 0 ∷ 0 ∷ 0 ∷ 0 ∷ 1 ∷ []

pub written_is : written packet ≡ datagram
written_is = refl

-- the same packet without its FTI
abbrev plain : Packet
plain = record { tsi = 1; toi = 1; fti = None; block = 0; esi = 0; bytes = 1 ∷ [] }

abbrev plain_datagram : List ℕ
plain_datagram = 0x10 ∷ 0xA0 ∷ 4 ∷ 5 ∷ 0 ∷ 0 ∷ 0 ∷ 0 ∷ 0 ∷ 0 ∷ 0 ∷ 1 ∷ 0 ∷ 0 ∷ 0 ∷ 1 ∷ 0 ∷ 0 ∷ 0 ∷ 0 ∷ 1 ∷ []

pub written_plain : written plain ≡ plain_datagram
written_plain = refl

-- with these bytes put in at a place
abbrev with_at : ℕ → List ℕ → List ℕ → List ℕ
with_at at xs d = take at d ++ (xs ++ drop at d)

pub same_packets : map read_of (
    datagram
    ∷ set datagram 1 0xAF
    ∷ set (set (with_at 8 (0 ∷ 0 ∷ 0 ∷ 0 ∷ []) datagram) 0 0x14) 2 8
    ∷ set (with_at 16 (0xC8 ∷ 0 ∷ 0 ∷ 0 ∷ []) datagram) 2 8
    ∷ set (with_at 16 (0 ∷ 1 ∷ 0 ∷ 0 ∷ []) datagram) 2 8
    ∷ (0x10 ∷ 0x10 ∷ 6 ∷ 5 ∷ 0 ∷ 0 ∷ 0 ∷ 0 ∷ 0 ∷ 1 ∷ 0 ∷ 1 ∷ drop 16 datagram)
    ∷ [])
    ≡ Ok packet ∷ Ok packet ∷ Ok packet ∷ Ok packet ∷ Ok packet ∷ Ok packet ∷ []
unfolding read_of walk number_of ceiling symbol_count block_count
same_packets = refl

pub faults_of_the_header : map read_of (
    take 3 datagram ∷ set datagram 0 0x20 ∷ set datagram 0 0x11 ∷ set datagram 3 0 ∷ set datagram 1 0x20 ∷ set datagram 1 0x80 ∷ set datagram 2 3 ∷ set datagram 2 9 ∷ [])
    ≡ Err TooShort ∷ Err Version ∷ Err Psi ∷ Err Codepoint ∷ Err NoIdentity ∷ Err NoIdentity ∷ Err HeaderLength ∷ Err HeaderLength ∷ []
unfolding read_of walk number_of ceiling symbol_count block_count
faults_of_the_header = refl

pub faults_of_the_extensions : map read_of (
    set datagram 2 6 ∷ set datagram 17 0 ∷ set datagram 17 4 ∷ set datagram 17 2 ∷ set (with_at 16 (take 12 (drop 16 datagram)) datagram) 2 0xA ∷ [])
    ≡ Err Extension ∷ Err Extension ∷ Err Extension ∷ Err FtiLength ∷ Err TwoFti ∷ []
unfolding read_of walk number_of ceiling symbol_count block_count
faults_of_the_extensions = refl

-- the header ends before the extension, and the extension is another
pub without_fti : map read_of (
    plain_datagram ∷ set datagram 16 0x41 ∷ set datagram 2 4 ∷ take 20 plain_datagram ∷ take 19 plain_datagram ∷ take 16 plain_datagram ∷ set (take 32 datagram) 16 0x41 ∷ [])
    ≡ Ok plain ∷ Ok plain
    ∷ Ok (record { tsi = 1; toi = 1; fti = None; block = 4195072; esi = 0; bytes = 0 ∷ 0 ∷ 0 ∷ 2 ∷ 0 ∷ 1 ∷ 2 ∷ 3 ∷ 0 ∷ 0 ∷ 0 ∷ 0 ∷ 1 ∷ [] })
    ∷ Err PayloadLength ∷ Err PayloadLength ∷ Err PayloadLength ∷ Err PayloadLength ∷ []
unfolding read_of walk number_of ceiling symbol_count block_count
without_fti = refl

pub faults_behind : map read_of (
    set datagram 23 0 ∷ set datagram 25 0 ∷ set datagram 26 0 ∷ set datagram 27 1 ∷ take 32 datagram ∷ (datagram ++ 0 ∷ []) ∷ [])
    ≡ Err (FtiValue LengthZero) ∷ Err (FtiValue SymbolZero) ∷ Err (FtiValue BlockZero) ∷ Err (FtiValue MaxBelowBlock) ∷ Err PayloadLength ∷ Err PayloadLength ∷ []
unfolding read_of walk number_of ceiling symbol_count block_count
faults_behind = refl

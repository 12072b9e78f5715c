-- The parts of a datagram that is written.
use Rattle.std.specs.Prelude.{ℕ, List, [], ◌∷◌, ◌++◌, Option, Some, None}
use Rattle.byteorder.specs.Endian.{big_bytes}
use Rattle.partition.specs.Fti.{Fti}
use Rattle.partition.specs.FtiBytes.{bytes_of_fti}

-- no other form is written: TSI and TOI of 32 bits, no congestion control, so many words of header
abbrev pub fixed_part : ℕ → ℕ → ℕ → List ℕ
fixed_part words tsi toi =
    (0x10 ∷ 0xA0 ∷ words ∷ 5 ∷ 0 ∷ 0 ∷ 0 ∷ 0 ∷ []) ++ (big_bytes 4 tsi ++ big_bytes 4 toi)

abbrev pub fti_part : Fti → List ℕ
fti_part f = (64 ∷ 3 ∷ []) ++ bytes_of_fti f

abbrev pub payload_id : ℕ → ℕ → List ℕ
payload_id block esi = big_bytes 3 block ++ (esi ∷ [])

-- the header: seven words with EXT_FTI, four without
abbrev pub header_part : ℕ → ℕ → Option Fti → List ℕ
header_part tsi toi None = fixed_part 4 tsi toi
header_part tsi toi (Some f) = fixed_part 7 tsi toi ++ fti_part f

abbrev pub payload_part : ℕ → ℕ → List ℕ → List ℕ
payload_part block esi symbol = payload_id block esi ++ symbol

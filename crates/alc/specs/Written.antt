-- What may be written, and the size of what is.
use Rattle.std.specs.Prelude.{◌≡◌, ℕ, ◌^◌, ◌<◌, ◌≤◌, List, Option, Some, None}
use Rattle.partition.specs.Fti.{Fti, block_count, encoding_count}
use Rattle.alc.specs.Packet.{Packet}

-- the bytes of a datagram before its encoding symbol
abbrev pub header_size : Option Fti → ℕ
header_size None = 20
header_size (Some f) = 32

-- the packet of these arguments
abbrev pub packet_from : ℕ → ℕ → Option Fti → ℕ → ℕ → List ℕ → Packet
packet_from tsi toi fti block esi symbol =
    record { tsi = tsi; toi = toi; fti = fti; block = block; esi = esi; bytes = symbol }

-- A packet with an FTI is written of a block and a symbol that the FTI has, and in its length. One
-- without is written of any block that its field holds, and some bytes.
abbrev pub IsWritable : Option Fti → ℕ → ℕ → ℕ → Type 0
IsWritable None block esi size = (block < 2 ^ 24) × (1 ≤ size)
IsWritable (Some f) block esi size =
    (block < block_count f) × (esi < encoding_count f block) × (size ≡ f.symbol_length)

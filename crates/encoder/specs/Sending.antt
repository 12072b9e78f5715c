-- The session that is sent of an object: which encoding symbols, in which order, in which
-- datagrams.
use Rattle.std.specs.Prelude.{◌≡◌, ◌≢◌, ℕ, ◌<◌, ◌≤◌, ◌+◌, ◌-◌, ◌%◌, ◌==◌, Bool, true, nat_lt, List}
use Rattle.std.specs.Prelude.{[], ◌∷◌, ◌++◌, length, map, flat_map, if◌then◌else◌, Option, Some}
use Rattle.std.specs.Prelude.{None}
use Rattle.std.specs.List.{sum_by}
use Rattle.std.specs.Io.KnownBytes.{Appends}
use Rattle.lists.specs.Below.{below}
use Rattle.partition.specs.Fti.{Fti, block_count, encoding_count}
use Rattle.alc.specs.Packet.{written}
use Rattle.alc.specs.Written.{header_size, packet_from}
use Rattle.streams.specs.Changes.{WriterChange}
use Rattle.session.specs.Frames.{most_bytes, frames, AppendsSome}
use Rattle.reception.specs.Symbols.{Agrees}
use Rattle.partition.specs.declared.order.Order.{Order}
use Rattle.partition.specs.declared.order.Order.TheVariants.{Blocks, Rounds}
use Rattle.encoder.specs.declared.sending.SendFault.{SendFault}
use Rattle.encoder.specs.declared.sending.SendFault.TheVariants.{Length, SymbolTooLong, Io}
use Rattle.encoder.specs.declared.sending.SendFault.TheVariants.{NoMemory}

-- the encoding symbols of a block, as pairs of block and ESI, ESIs rising
abbrev pub pairs_of_block : Fti → ℕ → List (ℕ × ℕ)
pairs_of_block f b = map (λ j. (b, j)) (below (encoding_count f b))

-- the encoding symbol of a block with this ESI, if it has one
abbrev pub pair_with : Fti → ℕ → ℕ → List (ℕ × ℕ)
pair_with f j b = if nat_lt j (encoding_count f b) then (b, j) ∷ [] else []

-- the encoding symbols with this ESI, blocks rising
abbrev pub pairs_of_round : Fti → ℕ → List (ℕ × ℕ)
pairs_of_round f j = flat_map (pair_with f j) (below (block_count f))

-- every encoding symbol of every block, once
abbrev pub pairs : Order → Fti → List (ℕ × ℕ)
pairs Blocks f = flat_map (pairs_of_block f) (below (block_count f))
pairs Rounds f = flat_map (pairs_of_round f) (below f.max_symbols)

-- a datagram of a session: its place, and which encoding symbol is sent in it
pub record Item : Type 0 where
  pub place : ℕ
  pub block : ℕ
  pub esi : ℕ

-- these encoding symbols one by one, at the places from this one on
abbrev pub items_from : ℕ → List (ℕ × ℕ) → List Item
items_from i [] = []
items_from i (p ∷ ps) = record { place = i; block = p.0; esi = p.1 } ∷ items_from (i + 1) ps

-- every encoding symbol of every block, each at its place of the session
abbrev pub items : Order → Fti → List Item
items order f = items_from 0 (pairs order f)

-- whether the datagram at this place of the session carries the FTI
abbrev pub is_carrier_at : ℕ → ℕ → Bool
is_carrier_at every place = place % every == 0

-- what it carries
abbrev pub fti_at : Fti → ℕ → ℕ → Option Fti
fti_at f every place = if is_carrier_at every place then Some f else None

-- the datagram is that of this encoding symbol of the object, at its place
pub record IsSent (object : List ℕ) (f : Fti) (tsi toi every : ℕ) (x : Item)
    (datagram : List ℕ) : Type 0 where
  pub symbol : List ℕ
  pub agrees : Agrees f object (record { block = x.block; esi = x.esi; bytes = symbol })
  pub spelling : datagram
      ≡ written (packet_from tsi toi (fti_at f every x.place) x.block x.esi symbol)

-- the datagrams are those of these encoding symbols, one by one
abbrev pub AreSent : List ℕ → Fti → ℕ → ℕ → ℕ → List Item → List (List ℕ) → Type 0
AreSent object f tsi toi every [] [] = Unit {0}
AreSent object f tsi toi every (x ∷ xs) (d ∷ ds) =
    IsSent object f tsi toi every x d × AreSent object f tsi toi every xs ds
AreSent object f tsi toi every _ _ = ⊥

-- the session of the object in this order
abbrev pub IsSessionOf : List ℕ → Fti → ℕ → ℕ → ℕ → Order → List (List ℕ) → Type 0
IsSessionOf object f tsi toi every order = AreSent object f tsi toi every (items order f)

-- the frames of datagrams that are, by Are, those of these encoding symbols were written, where it
-- is told what was
pub record Sends (Are : List Item → List (List ℕ) → Type 0) (xs : List Item)
    (old new : Option (List ℕ)) : Type 0 where
  pub datagrams : List (List ℕ)
  pub sent : Are xs datagrams
  pub gained : Appends old new (frames datagrams)

-- a beginning of them was
pub record SendsSome (Are : List Item → List (List ℕ) → Type 0) (xs : List Item)
    (old new : Option (List ℕ)) : Type 0 where
  pub front : List Item
  pub later : List Item
  pub whole : xs ≡ front ++ later
  pub datagrams : List (List ℕ)
  pub sent : Are front datagrams
  pub gained : AppendsSome old new (frames datagrams)

-- the bytes of a frame: two that tell the length, the datagram's header, and the encoding symbol
abbrev pub frame_bytes : Fti → ℕ → ℕ → ℕ
frame_bytes f every place = 2 + header_size (fti_at f every place) + f.symbol_length

-- the bytes of all their frames
abbrev pub session_bytes : Fti → ℕ → List Item → ℕ
session_bytes f every xs = sum_by (λ x. frame_bytes f every x.place) xs

-- the most bytes of an encoding symbol that the longest datagram holds behind a header with the FTI
abbrev pub most_symbol_bytes : ℕ
most_symbol_bytes = most_bytes - 32

-- the object has the FTI's length, and its symbols go into datagrams
pub record CanBeSent (object : List ℕ) (f : Fti) : Type 0 where
  pub whole : length object ≡ f.transfer_length
  pub short : f.symbol_length ≤ most_symbol_bytes

-- Why nothing was sent, or only a beginning. Of a beginning Begins holds, of what the writer had
-- and has.
abbrev pub IsSendFault : SendFault → List ℕ → Fti → (Option (List ℕ) → Option (List ℕ) → Type 0)
    → WriterChange → Type 0
IsSendFault Length object f Begins w = (length object ≢ f.transfer_length) × (w.after ≡ w.before)
IsSendFault SymbolTooLong object f Begins w =
    (length object ≡ f.transfer_length) × (most_symbol_bytes < f.symbol_length)
    × (w.after ≡ w.before)
IsSendFault NoMemory object f Begins w = CanBeSent object f × (w.after ≡ w.before)
IsSendFault Io object f Begins w =
    CanBeSent object f × Begins w.before w.after × (w.failed ≡ true)

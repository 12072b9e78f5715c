-- The places of frames in a session of order Rounds that is written by groups of blocks.
use Rattle.std.specs.Prelude.{◌≡◌, ◌⊎◌, ℕ, zero, suc, ◌<◌, ◌+◌, ◌*◌, List, []}
use Rattle.std.specs.Prelude.{length, flat_map, slice_index_or, Option, IfSome}
use Rattle.std.specs.Io.KnownBytes.{Consumes}
use Rattle.lists.specs.Below.{below}
use Rattle.lists.specs.Bytes.{AreBytes}
use Rattle.partition.specs.Fti.{Fti, block_count, encoding_count}
use Rattle.partition.specs.declared.order.Order.TheVariants.{Rounds}
use Rattle.reception.specs.Symbols.{Agrees}
use Rattle.session.specs.Frames.{frame}
use Rattle.partition.specs.Fti.{block_bytes}
use Rattle.encoder.specs.Rows.{row_at, AreSourcesOf}
use Rattle.encoder.specs.Sending.{Item, IsSent, pairs, pair_with, pairs_of_round, frame_bytes}

-- ---- places

-- how many blocks before b have an encoding symbol with this ESI
abbrev pub sent_before : Fti → ℕ → ℕ → ℕ
sent_before f j b = length (flat_map (pair_with f j) (below b))

-- how many encoding symbols are sent before that of block b with this ESI
abbrev pub place_of : Fti → ℕ → ℕ → ℕ
place_of f j b = length (flat_map (pairs_of_round f) (below j)) + sent_before f j b

-- where the frame of the datagram at a place begins
unfoldable pub offset_of : Fti → ℕ → ℕ → ℕ
offset_of f every zero = 0
offset_of f every (suc place) = offset_of f every place + frame_bytes f every place

-- the encoding symbols with this ESI of so many blocks from the first one on
abbrev pub run_of_round : Fti → ℕ → ℕ → ℕ → List (ℕ × ℕ)
run_of_round f j first count = flat_map (λ i. pair_with f j (first + i)) (below count)

-- ---- a group's encoding symbols

-- all encoding symbols of block b of the object, in part i of the rows. A part has room for those
-- of the greatest block.
abbrev pub AreSymbolsAt : List ℕ → Fti → ℕ → ℕ → List ℕ → Type 0
AreSymbolsAt object f i b rows =
    (j : ℕ) → j < encoding_count f b
    → Agrees f object (record {
      block = b;
      esi = j;
      bytes = row_at f.symbol_length rows (i * encoding_count f 0 + j);
    })

-- those of so many blocks from the first one on, each in a part of its own
abbrev pub AreSymbolsOf : List ℕ → Fti → ℕ → ℕ → List ℕ → Type 0
AreSymbolsOf object f first count rows =
    (i : ℕ) → i < count → AreSymbolsAt object f i (first + i) rows

-- block b was read, and this holds of each object whose block it is
pub record ReadsBlock (f : Fti) (b : ℕ) (left here : Option (List ℕ))
    (Holds : List ℕ → Type 0) : Type 0 where
  pub block : List ℕ
  pub count : length block ≡ block_bytes f b
  pub bytes : AreBytes block
  pub consumed : Consumes left here block
  pub holds : (object : List ℕ) → AreBytes object → AreSourcesOf f object b block → Holds object

-- ---- what is written

-- how far: the frames of all blocks before the first one of a group, and those of so many rounds of
-- the group's blocks
pub record Progress : Type 0 where
  pub first : ℕ
  pub count : ℕ
  pub rounds : ℕ

abbrev pub progress : ℕ → ℕ → ℕ → Progress
progress first count rounds = record { first = first; count = count; rounds = rounds }

-- whether the frame of block b with this ESI is among them
abbrev pub IsWritten : Progress → ℕ → ℕ → Type 0
IsWritten p j b = (b < p.first) ⊎ ((b < p.first + p.count) × (j < p.rounds))

-- these bytes are the frame of the datagram of this encoding symbol of the object
pub record IsFrameOf (object : List ℕ) (f : Fti) (tsi toi every : ℕ) (x : Item)
    (bytes : List ℕ) : Type 0 where
  pub datagram : List ℕ
  pub sent : IsSent object f tsi toi every x datagram
  pub framed : bytes ≡ frame datagram

-- what is written is in pieces as long as the frames of the session, and those of these encoding
-- symbols are their frames
pub record HasFrames (object : List ℕ) (f : Fti) (tsi toi every : ℕ) (p : Progress)
    (contents : Option (List ℕ)) : Type 0 where
  pub pieces : List (List ℕ)
  pub count : length pieces ≡ length (pairs Rounds f)
  pub sizes : (i : ℕ) → i < length pieces
      → length (slice_index_or pieces i []) ≡ frame_bytes f every i
  pub joined : IfSome contents (λ xs. xs ≡ flat_map (λ x. x) pieces)
  pub frames : (j b : ℕ) → b < block_count f → j < encoding_count f b → IsWritten p j b
      → IsFrameOf object f tsi toi every
      (record { place = place_of f j b; block = b; esi = j })
      (slice_index_or pieces (place_of f j b) [])

-- as many bytes as the session has, where it is told what is written
abbrev pub IsAsLong : Fti → ℕ → Option (List ℕ) → Type 0
IsAsLong f every contents =
    IfSome contents (λ xs. length xs ≡ offset_of f every (length (pairs Rounds f)))

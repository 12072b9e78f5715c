-- How frames are copied from readers to a writer.
use Rattle.std.specs.Prelude.{◌≡◌, ◌≤◌, ◌<◌, ◌+◌, ◌⊎◌, ℕ, suc, Bool, true, false, List, [], ◌∷◌}
use Rattle.std.specs.Prelude.{Option, None, length, slice_index_or}
use Rattle.std.specs.Io.KnownBytes.{Appends, Consumes, IsAtEnd}
use Rattle.streams.specs.Pieces.{AppendsSome}
use Rattle.session.specs.Frames.{frame, frames, most_bytes, AreShort, IsReadFault, IsSessionFault}
use Rattle.session.specs.Joining.{IsWhole}
use Rattle.session.specs.Turns.{taken}
use Rattle.session.specs.declared.frame.FrameFault.{FrameFault}
use Rattle.session.specs.declared.frame.FrameFault.TheVariants.{Io, NoMemory}

-- these bytes were written, which took no more than their room
pub record IsWritten (before after : Option (List ℕ)) (room_before room_after : ℕ)
    (bytes : List ℕ) : Type 0 where
  pub gained : Appends before after bytes
  pub fits : room_before ≤ room_after + length bytes

-- a frame was read and written
pub record IsCopied (old new before after : Option (List ℕ))
    (room_before room_after : ℕ) : Type 0 where
  pub datagram : List ℕ
  pub short : length datagram ≤ most_bytes
  pub consumed : Consumes old new (frame datagram)
  pub written : IsWritten before after room_before room_after (frame datagram)

-- the reader is at its end, and nothing was written
pub record IsOver (old new before after : Option (List ℕ))
    (room_before room_after : ℕ) : Type 0 where
  pub nothing : Consumes old new []
  pub end : IsAtEnd new
  pub same : after ≡ before
  pub room : room_after ≡ room_before

-- what one step did, by whether there was a frame
abbrev pub IsStep : Bool → Option (List ℕ) → Option (List ℕ) → Option (List ℕ) → Option (List ℕ) → ℕ
    → ℕ → Type 0
IsStep true old new before after room_before room_after =
    IsCopied old new before after room_before room_after
IsStep false old new before after room_before room_after =
    IsOver old new before after room_before room_after

-- no frame was read, and nothing was written
pub record IsUnread (fault : FrameFault) (sound : Bool) (old new : Option (List ℕ)) (failed : Bool)
    (before after : Option (List ℕ)) : Type 0 where
  pub because : IsReadFault fault old new failed
  pub unsound : fault ≡ Io → sound ≡ false
  pub same : after ≡ before

-- a frame was read, and a beginning of it written
pub record IsUnwritten (fault : FrameFault) (old new before after : Option (List ℕ)) (room : ℕ)
    (writer_failed : Bool) : Type 0 where
  pub datagram : List ℕ
  pub short : length datagram ≤ most_bytes
  pub consumed : Consumes old new (frame datagram)
  pub some : AppendsSome before after (frame datagram)
  pub io : fault ≡ Io
  pub fails : writer_failed ≡ true
  pub full : room < length (frame datagram)

-- of readers that were read to their ends up to one that has a fault, the fault of that
abbrev pub IsEarlier : FrameFault → List (Option (List ℕ)) → List Bool → List Bool → Type 0
IsEarlier fault old sound failed = (place : ℕ) × (place < length old)
    × IsSessionFault fault (slice_index_or old place None) (slice_index_or failed place false)
    × (fault ≡ Io → slice_index_or sound place false ≡ false)
    × ((i : ℕ) → i < place → IsWhole (slice_index_or old i None))

-- the first fault of them, and where none has one this one of another
abbrev pub IsFirstFault : FrameFault → FrameFault → List (Option (List ℕ)) → List Bool → List Bool
    → Type 0
IsFirstFault other fault old sound failed =
    ((fault ≡ other) × ((i : ℕ) → i < length old → IsWhole (slice_index_or old i None)))
    ⊎ IsEarlier fault old sound failed

-- the first fault where this one of another isn't want of memory, and else this one
abbrev pub IsToldFirst : FrameFault → FrameFault → List (Option (List ℕ)) → List Bool → List Bool
    → Type 0
IsToldFirst NoMemory fault old sound failed = fault ≡ NoMemory
IsToldFirst other fault old sound failed = IsFirstFault other fault old sound failed

-- these lists of datagrams were read of the readers, and Writes holds of their frames, joined
pub record HasJoined (turns : Bool) (old new : List (Option (List ℕ)))
    (Writes : List ℕ → Type 0) (count : ℕ) (lists : List (List (List ℕ))) : Type 0 where
  pub many : length lists ≡ length old
  pub consumed : (i : ℕ)
      → Consumes (slice_index_or old i None) (slice_index_or new i None)
      (frames (slice_index_or lists i []))
  pub each : (i : ℕ) → AreShort (slice_index_or lists i [])
  pub written : Writes (frames (taken turns lists))
  pub counted : count ≡ length (taken turns lists)

-- a reader that has given a datagram in each of n rounds, or has ended before
abbrev pub IsAfterRounds : ℕ → Bool → Option (List ℕ) → List (List ℕ) → Type 0
IsAfterRounds n false new datagrams = length datagrams ≡ n
IsAfterRounds n true new datagrams = (length datagrams ≤ n) × IsAtEnd new

-- round r has come to a place
pub record IsInRound (r place : ℕ) (ended : List Bool) (new : List (Option (List ℕ)))
    (lists : List (List (List ℕ))) : Type 0 where
  pub before : (i : ℕ) → i < place
      → IsAfterRounds (r + 1) (slice_index_or ended i true) (slice_index_or new i None)
      (slice_index_or lists i [])
  pub behind : (i : ℕ) → place ≤ i
      → IsAfterRounds r (slice_index_or ended i true) (slice_index_or new i None)
      (slice_index_or lists i [])

-- the readers before a place have ended, and from behind it none was read
pub record IsAtReader (place : ℕ) (new : List (Option (List ℕ)))
    (lists : List (List (List ℕ))) : Type 0 where
  pub before : (i : ℕ) → i < place → IsAtEnd (slice_index_or new i None)
  pub behind : (i : ℕ) → place < i → slice_index_or lists i [] ≡ []

-- more than the steps that so many bytes of each reader take
abbrev pub steps_left : List ℕ → ℕ
steps_left [] = 0
steps_left (left ∷ lefts) = suc left + steps_left lefts

-- Readers of frames that are joined in a writer.
use Rattle.std.specs.Prelude.{◌≡◌, ◌≢◌, ◌<◌, ◌⊎◌, ℕ, Bool, true, false, List, [], Option, None}
use Rattle.std.specs.Prelude.{length, slice_index_or, IfSome}
use Rattle.std.specs.Io.KnownBytes.{Appends, IsAtEnd}
use Rattle.streams.specs.Changes.{WriterChange}
use Rattle.streams.specs.Pieces.{AppendsSome}
use Rattle.session.specs.Frames.{frames, HasRead, IsFramed, IsSessionFault}
use Rattle.session.specs.Joined.{joined}
use Rattle.session.specs.declared.frame.FrameFault.{FrameFault}
use Rattle.session.specs.declared.frame.FrameFault.TheVariants.{Io, NoMemory}

-- All that the readers had left was read, a list of datagrams of each, and their frames, joined,
-- were written; their number.
pub record IsJoined (turns : Bool) (old new : List (Option (List ℕ)))
    (before after : Option (List ℕ)) (count : ℕ) : Type 0 where
  pub lists : List (List (List ℕ))
  pub many : length lists ≡ length old
  pub read : (i : ℕ)
      → HasRead (slice_index_or old i None) (slice_index_or new i None) (slice_index_or lists i [])
  pub ends : (i : ℕ) → IsAtEnd (slice_index_or new i None)
  pub written : Appends before after (frames (joined turns lists))
  pub counted : count ≡ length (joined turns lists)

-- all that a reader had left, where it is told, were frames
abbrev pub IsWhole : Option (List ℕ) → Type 0
IsWhole old = IfSome old (λ x. (datagrams : List (List ℕ)) × IsFramed datagrams x)

-- One of the readers gives this fault, which is a failure only where it isn't sound. Unless memory
-- is wanting, those before it have none.
pub record BlamesReader (fault : FrameFault) (old : List (Option (List ℕ)))
    (sound failed : List Bool) : Type 0 where
  pub place : ℕ
  pub inside : place < length old
  pub because : IsSessionFault fault (slice_index_or old place None)
      (slice_index_or failed place false)
  pub unsound : fault ≡ Io → slice_index_or sound place false ≡ false
  pub first : fault ≢ NoMemory → (i : ℕ) → i < place → IsWhole (slice_index_or old i None)

-- Why not all was joined: a reader's fault, or the writer has failed, which has no room for what
-- was read, or no memory. A beginning of the frames of what was read, joined, was written.
pub record IsUnjoined (turns : Bool) (fault : FrameFault) (old : List (Option (List ℕ)))
    (sound failed : List Bool) (writer : WriterChange) : Type 0 where
  pub lists : List (List (List ℕ))
  pub many : length lists ≡ length old
  pub read : (i : ℕ) → (left : Option (List ℕ))
      × HasRead (slice_index_or old i None) left (slice_index_or lists i [])
  pub some : AppendsSome writer.before writer.after (frames (joined turns lists))
  pub because : BlamesReader fault old sound failed
      ⊎ ((fault ≡ Io) × (writer.failed ≡ true)
      × (writer.room < length (frames (joined turns lists))))
      ⊎ (fault ≡ NoMemory)

-- A block's datagrams that were read into a room.
use Rattle.std.specs.Prelude.{◌≡◌, ◌≤◌, ◌<◌, ◌+◌, ℕ, List, Option, length, take, drop, slice_index}
use Rattle.std.specs.Prelude.{slice_index_or}
use Rattle.block_recovery.specs.declared.arrivals.Arrival.{Arrival}
use Rattle.file_decoder.specs.declared.rereading.Place.{Place}
use Rattle.streams.specs.Offsets.{StandsAt}

-- all of a datagram is among so many bytes of the file, from an offset on, that stand in the room
-- from a place on; and it begins in the room there
pub record IsAmong (from offset len : ℕ) (place : Place) (start : ℕ) : Type 0 where
  pub before : ℕ
  pub begins : start ≡ from + before
  pub offset_is : place.offset ≡ offset + before
  pub ends : before + place.length ≤ len

-- a datagram's bytes stand in the room from a start on
pub record IsRead (content : Option (List ℕ)) (place : Place) (room : List ℕ)
    (start : ℕ) : Type 0 where
  pub within : start + place.length ≤ length room
  pub stands : StandsAt content place.offset (take place.length (drop start room))

-- each of a block's does, from its own start on
pub record AreRead (content : Option (List ℕ)) (came : List (Arrival Place)) (starts : List ℕ)
    (room : List ℕ) : Type 0 where
  pub count : length starts ≡ length came
  pub each : (i : ℕ) (d : Arrival Place) → i < length came
      → IsRead content (slice_index_or came i d).symbol room (slice_index starts i)

-- Frames that are read, and what is left of them without the places of some ranges written.
use Rattle.std.specs.Prelude.{◌≡◌, ◌<◌, ◌⊎◌, ℕ, Bool, true, false, List, Option, None, Some, length}
use Rattle.std.specs.Prelude.{⊤}
use Rattle.std.specs.Io.KnownBytes.{Appends, IsAtEnd}
use Rattle.streams.specs.Changes.{ReaderChange}
use Rattle.streams.specs.Pieces.{AppendsSome}
use Rattle.lists.specs.Selection.{rest}
use Rattle.session.specs.Frames.{frames, HasRead, IsReadFault}
use Rattle.session.specs.Ranges.{is_in_some, first_unhad}
use Rattle.session.specs.declared.range.PlaceRange.{PlaceRange}
use Rattle.session.specs.declared.frame.FrameFault.{FrameFault}
use Rattle.session.specs.declared.frame.FrameFault.TheVariants.{Io, NoMemory, NoSuchPlace}

-- the frames of the datagrams at all other places
abbrev pub frames_left : List PlaceRange → List (List ℕ) → List ℕ
frames_left ranges datagrams = frames (rest (is_in_some ranges) datagrams)

-- All that the reader had left were these datagrams' frames. They have all places of the ranges,
-- and the frames of the others were written; their number.
pub record IsThinned (ranges : List PlaceRange) (old new before after : Option (List ℕ))
    (count : ℕ) : Type 0 where
  pub datagrams : List (List ℕ)
  pub read : HasRead old new datagrams
  pub end : IsAtEnd new
  pub inside : first_unhad (length datagrams) ranges ≡ None
  pub written : Appends before after (frames_left ranges datagrams)
  pub counted : count ≡ length (rest (is_in_some ranges) datagrams)

-- some datagrams' frames were read, and this holds of them and of what the reader had left then
abbrev pub ReadsSome : Option (List ℕ) → (List (List ℕ) → Option (List ℕ) → Type 0) → Type 0
ReadsSome old Holds =
    (datagrams : List (List ℕ)) × (left : Option (List ℕ)) × HasRead old left datagrams
    × Holds datagrams left

-- a beginning of what is left of them was written
abbrev pub WritesSome : List PlaceRange → Option (List ℕ) → Option (List ℕ) → Option (List ℕ)
    → Type 0
WritesSome ranges old before after =
    ReadsSome old (λ ds left. AppendsSome before after (frames_left ranges ds))

-- Why not all was read and written: a range's place that the datagrams don't have; the reader has
-- failed, which isn't sound, or the writer, which had no room for what is left of them; want of
-- memory; or no frame stands behind them.
abbrev pub IsUnthinned : FrameFault → List PlaceRange → ReaderChange → ℕ → Bool → Type 0
IsUnthinned (NoSuchPlace place) ranges r room writer_failed =
    IsAtEnd r.after × (ds : List (List ℕ)) × HasRead r.before r.after ds
    × (first_unhad (length ds) ranges ≡ Some place)
IsUnthinned Io ranges r room writer_failed =
    ((r.sound ≡ false) × (r.failed ≡ true))
    ⊎ ((writer_failed ≡ true)
    × ReadsSome r.before (λ ds left. room < length (frames_left ranges ds)))
IsUnthinned NoMemory ranges r room writer_failed = ⊤
IsUnthinned fault ranges r room writer_failed =
    ReadsSome r.before (λ ds left. IsReadFault fault left r.after r.failed)

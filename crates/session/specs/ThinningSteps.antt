-- What is known of frames that are copied but for those at the places of some ranges.
use Rattle.std.specs.Prelude.{◌≡◌, ℕ, List, Option, length}
use Rattle.std.specs.Io.KnownBytes.{Consumes}
use Rattle.lists.specs.Selection.{rest}
use Rattle.session.specs.Frames.{frames, AreShort}
use Rattle.session.specs.Ranges.{is_in_some}
use Rattle.session.specs.declared.range.PlaceRange.{PlaceRange}
use Rattle.session.specs.Thinning.{frames_left}

-- so many datagrams were read, so many of them are at other places, and Writes holds of the frames
-- of those
pub record HasCopied (ranges : List PlaceRange) (old new : Option (List ℕ))
    (Writes : List ℕ → Type 0) (count written : ℕ) : Type 0 where
  pub datagrams : List (List ℕ)
  pub consumed : Consumes old new (frames datagrams)
  pub each : AreShort datagrams
  pub many : length datagrams ≡ count
  pub writes : Writes (frames_left ranges datagrams)
  pub left : length (rest (is_in_some ranges) datagrams) ≡ written

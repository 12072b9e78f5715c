-- Where bytes differ, with zeros behind a list's end.
use Rattle.std.specs.Prelude.{◌≡◌, ◌≢◌, ℕ, ◌<◌, List, length, slice_index}

-- two lists have the same bytes at the first n places
abbrev pub AreSameBelow : ℕ → List ℕ → List ℕ → Type 0
AreSameBelow n xs ys = (c : ℕ) → c < n → slice_index xs c ≡ slice_index ys c

-- the least place of a row at which it has another byte
pub record IsFirstDifference (row bytes : List ℕ) (c : ℕ) : Type 0 where
  pub place : c < length row
  pub differ : slice_index row c ≢ slice_index bytes c
  pub same_before : AreSameBelow c row bytes

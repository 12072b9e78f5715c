-- Places as a text tells them: words between white space, each a place or a range of places.
use Rattle.std.specs.Prelude.{◌≡◌, ◌⊎◌, ◌==◌, ◌||◌, ◌++◌, ◌∷◌, ℕ, Bool, List, codes, filter, length}
use Rattle.std.specs.Prelude.{nat_lt, ⊤}
use Rattle.std.specs.List.{AllZip, slice_split}
use Rattle.clap.specs.Words.{Text}
use Rattle.session.specs.declared.range.PlaceRange.{PlaceRange}
use Rattle.request.specs.Numbers.{IsNumber}
use Rattle.request.specs.declared.places.PlaceFault.{PlaceFault}
use Rattle.request.specs.declared.places.PlaceFault.TheVariants.{NoPlace, NoMemory}

abbrev pub IsPlace : Text → ℕ → Type 0
IsPlace text place = IsNumber 0 4294967295 text place

-- Which places a word tells: one, or those from one to another. No range begins behind its last.
abbrev pub IsRange : Text → PlaceRange → Type 0
IsRange word range =
    (IsPlace word range.first × (range.last ≡ range.first))
    ⊎ ((first : Text) × (last : Text) × (word ≡ first ++ codes "-" ++ last)
    × IsPlace first range.first × IsPlace last range.last)

-- it tells none
abbrev pub IsNoRange : Text → Type 0
IsNoRange word = (range : PlaceRange) → ¬ IsRange word range

abbrev pub AreRanges : List Text → List PlaceRange → Type 0
AreRanges words ranges = AllZip IsRange words ranges

-- this word, behind so many, is the first that tells no places
pub record IsFirstWrong (words : List Text) (count : ℕ) (word : Text) : Type 0 where
  pub before : List Text
  pub after : List Text
  pub whole : words ≡ before ++ word ∷ after
  pub many : length before ≡ count
  pub ranges : List PlaceRange
  pub right : AreRanges before ranges
  pub wrong : IsNoRange word

-- why words don't all tell places
abbrev pub IsWrongPlace : List Text → PlaceFault → Type 0
IsWrongPlace words (NoPlace count) = (word : Text) × IsFirstWrong words count word
IsWrongPlace words NoMemory = ⊤

-- a space, a tab, a line feed or a carriage return
abbrev pub is_space : ℕ → Bool
is_space byte = (byte == 32) || ((byte == 9) || ((byte == 10) || (byte == 13)))

-- what stands between white space
abbrev pub words_of : Text → List Text
words_of text = filter (λ word. nat_lt 0 (length word)) (slice_split is_space text)

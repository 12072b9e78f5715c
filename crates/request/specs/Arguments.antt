-- The arguments of a command: what each is in clap's terms, and which value the words give it.
use Rattle.std.specs.Prelude.{◌≡◌, ◌<◌, ◌∷◌, [], ℕ, Bool, true, false, List, Option, Some, None}
use Rattle.std.specs.Prelude.{Contains, codes, length, map, unwrap_or}
use Rattle.std.specs.Borrow.{Bor}
use Rattle.clap.specs.Lexer.{usize_max}
use Rattle.clap.specs.Words.{Row, Rule, Text, all_of, first_of, new_rule, one_of}
use Rattle.clap.specs.declared.builder.action.ArgAction.TheVariants.{SetTrue}
use Rattle.clap.specs.declared.builder.range.ValueRange.{ValueRange}
use Rattle.clap.specs.declared.builder.value_parser.ValueParser.{ValueParser}
use Rattle.clap.specs.declared.builder.value_parser.ValueParser.TheVariants.{Names, Unsigned}
use Rattle.session.specs.declared.range.PlaceRange.{PlaceRange}
pub use Rattle.request.specs.Numbers.{IsNumber}
use Rattle.request.specs.Places.{AreRanges}

-- An argument by its name, and what it takes. A number is in a range, and may have a default. A
-- choice is one of some words, and has a default. A flag may have a letter, too. A file's name may
-- be an option's value; that may be left out. Places may be left out, too.
pub data Argument : Type 0 where
  File : Text → Argument
  Number : Text → ℕ → ℕ → Option Text → Argument
  Choice : Text → Bor (List (Bor Text)) → Text → Argument
  Places : Text → Argument
  Files : Text → Argument
  Flag : Text → Option ℕ → Argument
  FileOption : Text → Argument

-- `--name VALUE`
abbrev pub option : Text → ValueParser → Rule
option name kind = record (new_rule name) { long = Some name; value_names = 1; parser = Some kind }

abbrev pub one_or_more : ValueRange
one_or_more = record { start_inclusive = 1; end_inclusive = usize_max }

-- texts without an option's name
abbrev pub several : Text → Rule
several name = record (new_rule name) { range = Some one_or_more }

-- the argument in clap's terms: without a default it has to be given
abbrev pub rule_for : Argument → Rule
rule_for (File name) = record (new_rule name) { required = true }
rule_for (Number name low high None) = record (option name (Unsigned low high)) { required = true }
rule_for (Number name low high (Some number)) =
    record (option name (Unsigned low high)) { defaults = number ∷ [] }
rule_for (Choice name words word) = record (option name (Names words)) { defaults = word ∷ [] }
rule_for (Places name) = several name
rule_for (Files name) = record (several name) { required = true }
rule_for (Flag name letter) =
    record (new_rule name) { long = Some name; short = letter; action = Some SetTrue }
rule_for (FileOption name) = record (new_rule name) { long = Some name; value_names = 1 }

-- the value of an argument
pub data Value : Type 0 where
  AText : Text → Value
  ANumber : ℕ → Value
  SomePlaces : List PlaceRange → Value
  SomeTexts : List Text → Value
  AFlag : Bool → Value
  MaybeText : Option Text → Value

-- the texts that were given, none where it was left out
abbrev pub given_texts : Text → List Row → List Text
given_texts name rows = unwrap_or (all_of name rows) []

-- the word for whether a flag was given
abbrev pub flag_word : Bool → Text
flag_word true = codes "true"
flag_word false = codes "false"

-- this is the value of the argument in the rows that the grammar reads from the words
abbrev pub HasValue : List Row → Argument → Value → Type 0
HasValue rows (File name) (AText text) = first_of name rows ≡ Some text
HasValue rows (Number name low high default) (ANumber n) =
    (text : Text) × (one_of name rows ≡ Some text) × IsNumber low high text n
HasValue rows (Choice name words default) (AText word) =
    (first_of name rows ≡ Some word) × Contains (map (λ w. w.now) words.now) word
HasValue rows (Places name) (SomePlaces ranges) = AreRanges (given_texts name rows) ranges
HasValue rows (Files name) (SomeTexts texts) = (all_of name rows ≡ Some texts) × (0 < length texts)
HasValue rows (Flag name letter) (AFlag given) = first_of name rows ≡ Some (flag_word given)
HasValue rows (FileOption name) (MaybeText text) = first_of name rows ≡ text
HasValue rows argument value = ⊥

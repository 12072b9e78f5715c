-- The texts of an argument that has several, and the places that they tell.
use Rattle.std.proofs.Common.{List, [], ◌∷◌, ◌++◌, ◌≡◌, ◌<◌, ◌+◌, ◌∙◌, ℕ, suc, Bor, Option, Some, None, length, get_or, take, drop, option_map, unwrap_or, ap, arith, refl, sym, subst, map}
use Rattle.std.specs.Prelude.{is_none, true, false}
use Rattle.std.specs.Option.{IsSome}
use Rattle.std.proofs.lemmas.List.{take-append-drop, take_more, map-append}
use Rattle.std.proofs.Math.Seq.{drop-cons}
use Rattle.clap.specs.Words.{Text, all_of, matched_of, rows_of}
use Rattle.clap.specs.Matches.{raw_values}
use Rattle.clap.specs.declared.parser.matches.Found.{Found}
use Rattle.clap.proofs.WalkLemmas.{raw_values-rows}
use Rattle.session.specs.declared.range.PlaceRange.{PlaceRange}
use Rattle.request.specs.Arguments.{HasValue, AText, ANumber, AFlag, SomePlaces, SomeTexts, MaybeText, Files, given_texts}
use Rattle.request.specs.Matching.{IsGiven}
use Rattle.request.specs.Places.{AreRanges, IsRange, IsNoRange, IsFirstWrong}

-- ---- texts

module _ (f : Found) (name : Text) (given : Option (Bor (List (Bor Text))))
    (are : option_map (λ s. map (λ v. v.now) s.now) given ≡ option_map raw_values (matched_of f name)) (told : IsGiven (rows_of f) (Files name)) where
  some_texts : (texts : List Text) × HasValue (rows_of f) (Files name) (SomeTexts texts)
  some_texts = go told
    where
      go : IsGiven (rows_of f) (Files name) → (texts : List Text) × HasValue (rows_of f) (Files name) (SomeTexts texts)
      go (SomeTexts texts, has) = (texts, has)
      go (AText text, has) = absurd has
      go (ANumber n, has) = absurd has
      go (SomePlaces ranges, has) = absurd has
      go (AFlag given, has) = absurd has
      go (MaybeText text, has) = absurd has

  pub texts_found : IsSome given
  texts_found = go given are
    where
      go : (o : Option (Bor (List (Bor Text)))) → option_map (λ s. map (λ v. v.now) s.now) o ≡ option_map raw_values (matched_of f name) → IsSome o
      go (Some texts) is = refl
      go None is = let bad : None ≡ Some some_texts.0 = is ∙ (raw_values-rows f name ∙ some_texts.1.0) in cc

  pub texts_are : (texts : Bor (List (Bor Text))) → given ≡ Some texts → HasValue (rows_of f) (Files name) (SomeTexts (map (λ v. v.now) texts.now))
  texts_are texts some =
      let all : all_of name (rows_of f) ≡ Some (map (λ v. v.now) texts.now) = sym (rw some at are ∙ raw_values-rows f name) in
      let same : some_texts.0 ≡ map (λ v. v.now) texts.now = ap (λ found. unwrap_or found []) (sym some_texts.1.0 ∙ all) in
      subst (λ names. HasValue (rows_of f) (Files name) (SomeTexts names)) same some_texts.1

-- ---- texts that may be left out

pub texts_given : (f : Found) (name : Text) (given : Option (Bor (List (Bor Text)))) → option_map (λ s. map (λ v. v.now) s.now) given ≡ option_map raw_values (matched_of f name)
    → given_texts name (rows_of f) ≡ unwrap_or (option_map (λ (s : Bor (List (Bor Text))). map (λ (v : Bor Text). v.now) s.now) given) []
texts_given f name given are = ap (λ (o : Option (List Text)). unwrap_or o []) (sym (are ∙ raw_values-rows f name))

-- ---- places

abbrev pub texts_of : List (Bor Text) → List Text
texts_of texts = map (λ text. text.now) texts

pub ranges_more : (words : List Text) (ranges : List PlaceRange) (word : Text) (range : PlaceRange) → AreRanges words ranges → IsRange word range
    → AreRanges (words ++ word ∷ []) (ranges ++ range ∷ [])
ranges_more [] [] word range so_far one = (one, tt)
ranges_more [] (r ∷ ranges) word range so_far one = absurd so_far
ranges_more (w ∷ words) [] word range so_far one = absurd so_far
ranges_more (w ∷ words) (r ∷ ranges) word range so_far one = (so_far.0, ranges_more words ranges word range so_far.1 one)

pub many_ranges : (words : List Text) (ranges : List PlaceRange) → AreRanges words ranges → length words ≡ length ranges
many_ranges [] [] are = refl
many_ranges [] (r ∷ ranges) are = absurd are
many_ranges (w ∷ words) [] are = absurd are
many_ranges (w ∷ words) (r ∷ ranges) are = ap suc (many_ranges words ranges are.1)

-- one text more
pub text_more : (texts : List (Bor Text)) (i : ℕ) (d : Bor Text) (ranges : List PlaceRange) (range : PlaceRange) → i < length texts → AreRanges (texts_of (take i texts)) ranges
    → IsRange (get_or texts i d).now range → AreRanges (texts_of (take (i + 1) texts)) (ranges ++ range ∷ [])
text_more texts i d ranges range l are one =
    subst (λ (words : List Text). AreRanges words (ranges ++ range ∷ [])) (sym more) (ranges_more (texts_of (take i texts)) ranges (get_or texts i d).now range are one)
  where
    more : texts_of (take (i + 1) texts) ≡ texts_of (take i texts) ++ (get_or texts i d).now ∷ []
    more = ap texts_of (take_more texts i d l) ∙ map-append (λ (text : Bor Text). text.now) (take i texts) (get_or texts i d ∷ [])

-- one that tells none
pub text_wrong : (texts : List (Bor Text)) (i : ℕ) (d : Bor Text) (ranges : List PlaceRange) → i < length texts → AreRanges (texts_of (take i texts)) ranges → IsNoRange (get_or texts i d).now
    → (count : ℕ) × IsFirstWrong (texts_of texts) count (get_or texts i d).now
text_wrong texts i d ranges l are wrong = (
  length (texts_of (take i texts)),
  record {
    before = texts_of (take i texts);
    after = texts_of (drop (suc i) texts);
    whole = ap texts_of (sym (take-append-drop i texts)) ∙ map-append (λ (text : Bor Text). text.now) (take i texts) (drop i texts)
        ∙ ap (λ (ts : List (Bor Text)). texts_of (take i texts) ++ texts_of ts) (drop-cons texts i d l);
    many = refl;
    ranges = ranges;
    right = are;
    wrong = wrong;
  },
)

pub none_told : (words : List Text) (ranges : List PlaceRange) → AreRanges words ranges → length ranges ≡ 0 → words ≡ []
none_told [] ranges are none = refl
none_told (w ∷ words) [] are none = absurd are
none_told (w ∷ words) (r ∷ ranges) are none = absurd (omega (arith, none))

pub none_named : (name : Option (Bor Text)) → is_none name ≡ true → option_map (λ (text : Bor Text). text.now) name ≡ None
none_named None none = refl
none_named (Some text) none = let bad : false ≡ true = none in absurd (cc)

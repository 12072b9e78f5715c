-- The places that a word tells, and a text's words.
use Rattle.std.proofs.Common.{List, [], ◌∷◌, ◌++◌, ◌≡◌, ◌≢◌, ◌<◌, ◌≤◌, ◌+◌, ◌∙◌, ℕ, zero, suc, Bool, true, false, cond, Bor, Option, Some, None, length, length-append, get_or, take, drop, append_assoc, inl, inr, ap, arith, refl, sym, subst}
use Rattle.std.specs.Prelude.{◌==◌, ◌↔◌, MatchOption, filter, nat_lt, position, slice_index}
use Rattle.std.specs.List.{position_or_len, slice_split, onto_first}
use Rattle.std.specs.Str.Parse.{AllDigits}
use Rattle.std.specs.Str.{IsAscii, IsUtf8}
use Rattle.std.proofs.lemmas.Str.{IsUtf8-from_ascii}
use Rattle.std.proofs.lemmas.Bool.{eqb-true, ltb-true, ltb-false, lt-ltb, le-ltb}
use Rattle.std.proofs.lemmas.List.{append-nil}
use Rattle.std.proofs.lemmas.List.Splits.{slice_split_first}
use Rattle.std.proofs.lemmas.Str.Parse.{digit_at, digit_from_value}
use Rattle.std.proofs.lemmas.Str.Pattern.{IsSplitOnceResult, split_parts, split_after}
use Rattle.clap.specs.Words.{Text}
use Rattle.session.specs.declared.range.PlaceRange.{PlaceRange}
use Rattle.request.specs.Places.{IsPlace, IsRange, IsNoRange, AreRanges, IsFirstWrong, is_space, words_of}
use Rattle.request.proofs.Texts.{ranges_more, many_ranges}
use Rattle.request.specs.PlaceSteps.{pieces_left}

-- ---- numbers

-- a number has no dash
no_dash : (text : Text) (n : ℕ) → IsPlace text n → (i : ℕ) → i < length text → get_or text i 0 ≢ 45
no_dash [] n is i l e = absurd (omega (arith, l))
no_dash (c ∷ cs) n is i l e = go (c == 43) refl is.digits.1 i l e
  where
    go : (b : Bool) → (c == 43) ≡ b → AllDigits 10 (drop (cond b 1 0) (c ∷ cs)) → (i : ℕ) → i < length (c ∷ cs) → get_or (c ∷ cs) i 0 ≡ 45 → ⊥
    go true plus digits zero l e = let is = eqb-true c 43 plus in omega (arith, is, e)
    go true plus digits (suc i) l e = let is = digit_at cs i digits (omega (arith, l)) in let low = is.0 in omega (arith, low, e)
    go false plus digits i l e = let is = digit_at (c ∷ cs) i digits l in let low = is.0 in omega (arith, low, e)

dash_at : (front back : Text) → get_or (front ++ 45 ∷ back) (length front) 0 ≡ 45
dash_at [] back = refl
dash_at (c ∷ front) back = dash_at front back

-- a text with a dash in it is no number
dashed : (word front back : Text) (n : ℕ) → word ≡ front ++ 45 ∷ back → IsPlace word n → ⊥
dashed word front back n is place =
    no_dash (front ++ 45 ∷ back) n (subst (λ (w : Text). IsPlace w n) is place) (length front) (let l = length-append front (45 ∷ back) in omega (arith, l)) (dash_at front back)

abbrev pub HasEnds : Text → Text → Text → Type 0
HasEnds word first last = (range : PlaceRange) → IsRange word range ↔ (IsPlace first range.first × IsPlace last range.last)

module _ (word : Text) (range : PlaceRange) where
  alone : ((i : ℕ) → i < length word → get_or word i 0 ≢ 45) → IsRange word range → IsPlace word range.first × IsPlace word range.last
  alone none (inl (place, same)) = (place, subst (λ (n : ℕ). IsPlace word n) (sym same) place)
  alone none (inr (front, back, is, first, last)) =
      let whole : word ≡ front ++ 45 ∷ back = is ∙ append_assoc front (45 ∷ []) back in
      let long : length word ≡ length front + suc (length back) = ap (λ (w : Text). length w) whole ∙ length-append front (45 ∷ back) in
      absurd (none (length front) (omega (arith, long)) (ap (λ (w : Text). get_or w (length front) 0) whole ∙ dash_at front back))

  both : (x : Bor Text × Bor Text) → IsSplitOnceResult 45 word (Some x) → word ≡ x.0.now ++ 45 ∷ x.1.now → IsRange word range
      → IsPlace x.0.now range.first × IsPlace x.1.now range.last
  both x cut whole (inl (place, same)) = absurd (dashed word x.0.now x.1.now range.first whole place)
  both x cut whole (inr (front, back, is, first, last)) =
      let same = split_after 45 word front back (Some x) cut (omega arith) (is ∙ append_assoc front (45 ∷ []) back) (no_dash front range.first first) in
      (subst (λ (w : Text). IsPlace w range.first) (sym same.0) first, subst (λ (w : Text). IsPlace w range.last) (sym same.1) last)

pub ends_of : (word : Text) (r : Option (Bor Text × Bor Text)) → IsSplitOnceResult 45 word r → MatchOption r (HasEnds word word word) (λ x. HasEnds word x.0.now x.1.now)
ends_of word None cut = λ range. (alone word range (split_parts 45 word None cut (omega arith)), λ p. inl (p.0, p.1.value ∙ sym p.0.value))
ends_of word (Some x) cut = λ range.
    let parts = split_parts 45 word (Some x) cut (omega arith) in
    (both word range x cut parts.0, λ p. inr (x.0.now, x.1.now, parts.0 ∙ sym (append_assoc x.0.now (45 ∷ []) x.1.now), p.0, p.1))

-- ---- bytes

ascii_digits : (ds : Text) → AllDigits 10 ds → (i : ℕ) → slice_index ds i < 128
ascii_digits [] all i = omega arith
ascii_digits (d ∷ ds) all zero = let is = digit_from_value d all.0 in let high = is.1 in omega (arith, high)
ascii_digits (d ∷ ds) all (suc i) = ascii_digits ds all.1 i

ascii_number : (text : Text) (n : ℕ) → IsPlace text n → (i : ℕ) → slice_index text i < 128
ascii_number [] n is i = omega arith
ascii_number (c ∷ cs) n is i = go (c == 43) refl is.digits.1 i
  where
    go : (b : Bool) → (c == 43) ≡ b → AllDigits 10 (drop (cond b 1 0) (c ∷ cs)) → (i : ℕ) → slice_index (c ∷ cs) i < 128
    go true plus digits zero = let is = eqb-true c 43 plus in omega (arith, is)
    go true plus digits (suc i) = ascii_digits cs digits i
    go false plus digits i = ascii_digits (c ∷ cs) digits i

ascii_append : (xs ys : Text) → ((i : ℕ) → slice_index xs i < 128) → ((i : ℕ) → slice_index ys i < 128) → (i : ℕ) → slice_index (xs ++ ys) i < 128
ascii_append [] ys h g i = g i
ascii_append (x ∷ xs) ys h g zero = h 0
ascii_append (x ∷ xs) ys h g (suc i) = ascii_append xs ys (λ j. h (suc j)) g i

one_dash : (i : ℕ) → slice_index (45 ∷ []) i < 128
one_dash zero = omega arith
one_dash (suc i) = omega arith

ascii_range : (word : Text) (range : PlaceRange) → IsRange word range → IsAscii word
ascii_range word range (inl (place, same)) = ascii_number word range.first place
ascii_range word range (inr (front, back, is, first, last)) =
    subst (λ (w : Text). IsAscii w) (sym is)
    (ascii_append (front ++ 45 ∷ []) back (ascii_append front (45 ∷ []) (ascii_number front range.first first) one_dash) (ascii_number back range.last last))

-- bytes that are no text tell no places
pub no_text : (word : Text) → ¬ IsUtf8 word → IsNoRange word
no_text word not = λ range is. not (IsUtf8-from_ascii word (ascii_range word range is))

-- ---- words

position_most : (text : Text) → position_or_len is_space text ≤ length text
position_most [] = omega arith
position_most (c ∷ cs) = go (is_space c) refl (position_most cs)
  where
    go : (b : Bool) → is_space c ≡ b → position_or_len is_space cs ≤ length cs → position_or_len is_space (c ∷ cs) ≤ suc (length cs)
    go true e most = rw e (omega arith)
    go false e most = rw e (omega (arith, most))

not_split : (text : Text) → position_or_len is_space text ≡ length text → slice_split is_space text ≡ text ∷ []
not_split [] none = refl
not_split (c ∷ cs) none = go (is_space c) refl none (not_split cs)
  where
    go : (b : Bool) → is_space c ≡ b → position_or_len is_space (c ∷ cs) ≡ suc (length cs) → (position_or_len is_space cs ≡ length cs → slice_split is_space cs ≡ cs ∷ [])
        → slice_split is_space (c ∷ cs) ≡ (c ∷ cs) ∷ []
    go true e none more = let bad : 0 ≡ suc (length cs) = rw e at none in absurd (omega (arith, bad))
    go false e none more = rw e (let rest : position_or_len is_space cs ≡ length cs = (let all = rw e at none in omega (arith, all)) in ap (λ (parts : List Text). onto_first c parts) (more rest))

pub pieces : (text : Text) (r : Option ℕ) → r ≡ position is_space text
    → MatchOption r (slice_split is_space text ≡ text ∷ []) (λ at. (at < length text) × (slice_split is_space text ≡ take at text ∷ slice_split is_space (drop (at + 1) text)))
pieces text r is = go (nat_lt (position_or_len is_space text) (length text)) refl
  where
    go : (b : Bool) → nat_lt (position_or_len is_space text) (length text) ≡ b
        → MatchOption r (slice_split is_space text ≡ text ∷ []) (λ at. (at < length text) × (slice_split is_space text ≡ take at text ∷ slice_split is_space (drop (at + 1) text)))
    go true e =
        let within = ltb-true (position_or_len is_space text) (length text) e in
        rw (is, e) (within, slice_split_first is_space text 0 within)
    go false e =
        let beyond = ltb-false (position_or_len is_space text) (length text) e in
        rw (is, e) (not_split text (let most = position_most text in omega (arith, most, beyond)))

abbrev pub words_left : Option Text → List Text
words_left left = filter (λ word. nat_lt 0 (length word)) (pieces_left left)

-- one piece more, which is a word or empty
pub next_word : (text word : Text) (rest : Option Text) → slice_split is_space text ≡ word ∷ pieces_left rest → 0 < length word → words_of text ≡ word ∷ words_left rest
next_word text word rest is some =
    ap (λ (parts : List Text). filter (λ word. nat_lt 0 (length word)) parts) is
    ∙ ap (λ (b : Bool). cond b (word ∷ words_left rest) (words_left rest)) (lt-ltb 0 (length word) some)

pub no_word : (text word : Text) (rest : Option Text) → slice_split is_space text ≡ word ∷ pieces_left rest → length word ≡ 0 → words_of text ≡ words_left rest
no_word text word rest is none =
    ap (λ (parts : List Text). filter (λ word. nat_lt 0 (length word)) parts) is
    ∙ ap (λ (b : Bool). cond b (word ∷ words_left rest) (words_left rest)) (le-ltb 0 (length word) (omega (arith, none)))

-- the words before what is left were read as these ranges
pub record HaveRead (text : Text) (left : Option Text) (ranges : List PlaceRange) : Type 0 where
  pub read : List Text
  pub whole : words_of text ≡ read ++ words_left left
  pub are : AreRanges read ranges

pub none_read : (text : Text) → HaveRead text (Some text) []
none_read text = record { read = []; whole = refl; are = tt }

pub all_read : (text : Text) (ranges : List PlaceRange) → HaveRead text None ranges → AreRanges (words_of text) ranges
all_read text ranges h = subst (λ (words : List Text). AreRanges words ranges) (sym (h.whole ∙ append-nil h.read)) h.are

pub read_more : (text left word : Text) (rest : Option Text) (ranges : List PlaceRange) (range : PlaceRange) → HaveRead text (Some left) ranges
    → slice_split is_space left ≡ word ∷ pieces_left rest → 0 < length word → IsRange word range → HaveRead text rest (ranges ++ range ∷ [])
read_more text left word rest ranges range h is some one = record {
  read = h.read ++ word ∷ [];
  whole = h.whole ∙ ap (λ (words : List Text). h.read ++ words) (next_word left word rest is some) ∙ sym (append_assoc h.read (word ∷ []) (words_left rest));
  are = ranges_more h.read ranges word range h.are one;
}

pub read_nothing : (text left word : Text) (rest : Option Text) (ranges : List PlaceRange) → HaveRead text (Some left) ranges
    → slice_split is_space left ≡ word ∷ pieces_left rest → length word ≡ 0 → HaveRead text rest ranges
read_nothing text left word rest ranges h is none = record {
  read = h.read;
  whole = h.whole ∙ ap (λ (words : List Text). h.read ++ words) (no_word left word rest is none);
  are = h.are;
}

pub read_wrong : (text left word : Text) (rest : Option Text) (ranges : List PlaceRange) (count : ℕ) → HaveRead text (Some left) ranges
    → slice_split is_space left ≡ word ∷ pieces_left rest → 0 < length word → IsNoRange word → length ranges ≡ count → IsFirstWrong (words_of text) count word
read_wrong text left word rest ranges count h is some wrong many = record {
  before = h.read;
  after = words_left rest;
  whole = h.whole ∙ ap (λ (words : List Text). h.read ++ words) (next_word left word rest is some);
  many = many_ranges h.read ranges h.are ∙ many;
  ranges = ranges;
  right = h.are;
  wrong = wrong;
}

pub not_empty : (n : ℕ) → (n == 0) ≡ false → 0 < n
not_empty zero e = let bad : true ≡ false = e in absurd (cc)
not_empty (suc n) e = omega arith

pub is_empty : (n : ℕ) → (n == 0) ≡ true → n ≡ 0
is_empty n e = eqb-true n 0 e

-- how much is left at most
abbrev pub size_left : Option Text → ℕ
size_left None = 0
size_left (Some text) = suc (length text)

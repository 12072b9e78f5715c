-- A name that is put letter by letter.
use Rattle.std.proofs.Common.{◌≡◌, ◌++◌, ◌∙◌, [], ◌∷◌, ◌||◌, ℕ, ◌+◌, ◌-◌, ◌<◌, ◌≤◌, List, Bool, true, false, min, cond, flat_map, length, get_or, drop, refl, ap, subst, sym, arith, length-append, append_assoc}
use Rattle.std.specs.Prelude.{nat_le, encode_utf8}
use Rattle.std.specs.Str.{chars, IsUtf8}
use Rattle.std.proofs.Math.Utf8.{encode, encodes}
use Rattle.std.proofs.lemmas.Bool.Decides.{nat_tests}
use Rattle.std.proofs.lemmas.Str.{length-encode, encodes-chars}
use Rattle.std.proofs.lemmas.List.{at_drop_more}
use Rattle.chart.specs.declared.canvas.Canvas.{Canvas}
use Rattle.chart.proofs.Putting.{Leaves, leaves_less}
use Rattle.chart.specs.Texts.{Puts, width_of, width, escaped, beginning, ending, name_text}

width-le : (letters : List ℕ) → width letters ≤ length (encodes letters)
width-le [] = omega arith
width-le (letter ∷ letters) =
    let rest = width-le letters in
    grind (arith, nat_tests, length-encode letter, length-append (encode letter) (encodes letters))

pub width_of_text : (text : List ℕ) → IsUtf8 text → width (chars text) ≤ length text
width_of_text text utf8 = subst (λ (l : List ℕ). width (chars text) ≤ length l) (encodes-chars text utf8) (width-le (chars text))

-- whether a letter of a name is shown
abbrev pub is_shown : ℕ → ℕ → ℕ → Bool
is_shown whole before end = nat_le whole 70 || nat_le end 35 || nat_le (whole - 33) before

-- what is put of the letters that are left of a name
unfoldable pub left_of : ℕ → ℕ → Bool → List ℕ → List ℕ
left_of whole before is_cut [] = []
left_of whole before is_cut (letter ∷ letters) =
    cond (is_shown whole before (before + width_of letter))
    (escaped letter ++ left_of whole (before + width_of letter) is_cut letters)
    (cond is_cut [] (encode_utf8 8230) ++ left_of whole (before + width_of letter) true letters)

choose_first : (test : Bool) (first second : List ℕ) → test ≡ true → cond test first second ≡ first
choose_first true first second is = refl
choose_first false first second is = absurd (cc)

choose_second : (test : Bool) (first second : List ℕ) → test ≡ false → cond test first second ≡ second
choose_second true first second is = absurd (cc)
choose_second false first second is = refl

pub left-shown : (whole before : ℕ) (is_cut : Bool) (letter : ℕ) (letters : List ℕ) → is_shown whole before (before + width_of letter) ≡ true → left_of whole before is_cut (letter ∷ letters) ≡ escaped letter ++ left_of whole (before + width_of letter) is_cut letters
unfolding left_of
left-shown whole before is_cut letter letters is = choose_first _ _ _ is

pub left-hidden : (whole before : ℕ) (is_cut : Bool) (letter : ℕ) (letters : List ℕ) → is_shown whole before (before + width_of letter) ≡ false → left_of whole before is_cut (letter ∷ letters) ≡ cond is_cut [] (encode_utf8 8230) ++ left_of whole (before + width_of letter) true letters
unfolding left_of
left-hidden whole before is_cut letter letters is = choose_second _ _ _ is

shown-short : (whole before end : ℕ) → whole ≤ 70 → is_shown whole before end ≡ true
shown-short whole before end short = grind (arith, nat_tests)

shown-first : (whole before end : ℕ) → end ≤ 35 → is_shown whole before end ≡ true
shown-first whole before end first = grind (arith, nat_tests)

shown-last : (whole before end : ℕ) → whole ≤ before + 33 → is_shown whole before end ≡ true
shown-last whole before end last = grind (arith, nat_tests)

hidden-between : (whole before end : ℕ) → 70 < whole → 35 < end → before + 33 < whole → is_shown whole before end ≡ false
hidden-between whole before end long first last = grind (arith, nat_tests)

left-short : (whole before : ℕ) (is_cut : Bool) (letters : List ℕ) → whole ≤ 70 → left_of whole before is_cut letters ≡ flat_map escaped letters
unfolding left_of
left-short whole before is_cut [] short = refl
left-short whole before is_cut (letter ∷ letters) short =
    left-shown whole before is_cut letter letters (shown-short _ _ _ short) ∙ ap (λ (l : List ℕ). escaped letter ++ l) (left-short whole (before + width_of letter) is_cut letters short)

left-last : (whole before : ℕ) (is_cut : Bool) (letters : List ℕ) → whole ≤ before + 33 → left_of whole before is_cut letters ≡ flat_map escaped letters
unfolding left_of
left-last whole before is_cut [] last = refl
left-last whole before is_cut (letter ∷ letters) last =
    left-shown whole before is_cut letter letters (shown-last _ _ _ last) ∙ ap (λ (l : List ℕ). escaped letter ++ l) (left-last whole (before + width_of letter) is_cut letters (omega arith))

ends : (room letter : ℕ) (letters : List ℕ) → room < width (letter ∷ letters) → ending room (letter ∷ letters) ≡ ending room letters
ends room letter letters wider =
    let no : nat_le (width (letter ∷ letters)) room ≡ false = grind (arith, nat_tests) in
    choose_second (nat_le (width (letter ∷ letters)) room) (letter ∷ letters) (ending room letters) no

-- the letters behind the first that isn't shown
between-either : (fits : Bool) (whole before letter : ℕ) (letters : List ℕ) → nat_le (width (letter ∷ letters)) 33 ≡ fits → 70 < whole → 35 < before → before + width (letter ∷ letters) ≡ whole → left_of whole (before + width_of letter) true letters ≡ flat_map escaped (ending 33 letters) → left_of whole before true (letter ∷ letters) ≡ flat_map escaped (cond fits (letter ∷ letters) (ending 33 letters))
between-either true whole before letter letters is long first sum behind =
    let last : width (letter ∷ letters) ≤ 33 = grind (arith, nat_tests) in
    left-last whole before true (letter ∷ letters) (omega arith)
between-either false whole before letter letters is long first sum behind =
    let wide : 33 < width (letter ∷ letters) = grind (arith, nat_tests) in
    left-hidden whole before true letter letters (hidden-between whole before (before + width_of letter) long (omega arith) (omega arith)) ∙ behind

left-between : (whole before : ℕ) (letters : List ℕ) → 70 < whole → 35 < before → before + width letters ≡ whole → left_of whole before true letters ≡ flat_map escaped (ending 33 letters)
unfolding left_of
left-between whole before [] long first sum = refl
left-between whole before (letter ∷ letters) long first sum =
    between-either (nat_le (width (letter ∷ letters)) 33) whole before letter letters refl long first sum (left-between whole (before + width_of letter) letters long (omega arith) (omega arith))

cut : List ℕ → List ℕ → List ℕ
cut first last = flat_map escaped first ++ encode_utf8 8230 ++ flat_map escaped last

first-either : (fits : Bool) (whole before letter : ℕ) (letters : List ℕ) → nat_le (width_of letter) (35 - before) ≡ fits → 70 < whole → before ≤ 35 → before + width (letter ∷ letters) ≡ whole → (before + width_of letter ≤ 35 → left_of whole (before + width_of letter) false letters ≡ cut (beginning (35 - (before + width_of letter)) letters) (ending 33 letters)) → left_of whole before false (letter ∷ letters) ≡ cut (cond fits (letter ∷ beginning (35 - before - width_of letter) letters) []) (ending 33 letters)
unfolding cut
first-either true whole before letter letters is long first sum behind =
    let within : width_of letter ≤ 35 - before = grind (arith, nat_tests) in
    let room : 35 - (before + width_of letter) ≡ 35 - before - width_of letter = omega arith in
    let shown = left-shown whole before false letter letters (shown-first whole before (before + width_of letter) (omega arith)) in
    let rest = subst (λ (r : ℕ). left_of whole (before + width_of letter) false letters ≡ cut (beginning r letters) (ending 33 letters)) room (behind (omega arith)) in
    shown ∙ ap (λ (l : List ℕ). escaped letter ++ l) rest ∙ simp append_assoc
first-either false whole before letter letters is long first sum behind =
    let wide : 35 - before < width_of letter = grind (arith, nat_tests) in
    left-hidden whole before false letter letters (hidden-between whole before (before + width_of letter) long (omega arith) (omega arith)) ∙ ap (λ (l : List ℕ). encode_utf8 8230 ++ l) (left-between whole (before + width_of letter) letters long (omega arith) (omega arith))

left-first : (whole before : ℕ) (letters : List ℕ) → 70 < whole → before ≤ 35 → before + width letters ≡ whole → left_of whole before false letters ≡ cut (beginning (35 - before) letters) (ending 33 letters)
left-first whole before [] long first sum = absurd (omega arith)
left-first whole before (letter ∷ letters) long first sum =
    let parts = first-either (nat_le (width_of letter) (35 - before)) whole before letter letters refl long first sum (λ within. left-first whole (before + width_of letter) letters long within (omega arith)) in
    parts ∙ ap (cut (beginning (35 - before) (letter ∷ letters))) (sym (ends 33 letter letters (omega arith)))

whole-either : (fits : Bool) (letters : List ℕ) → nat_le (width letters) 70 ≡ fits → left_of (width letters) 0 false letters ≡ cond fits (flat_map escaped letters) (flat_map escaped (beginning 35 letters) ++ encode_utf8 8230 ++ flat_map escaped (ending 33 letters))
unfolding cut
whole-either true letters is =
    let short : width letters ≤ 70 = grind (arith, nat_tests) in
    left-short (width letters) 0 false letters short
whole-either false letters is =
    let long : 70 < width letters = grind (arith, nat_tests) in
    left-first (width letters) 0 letters long (omega arith) (omega arith)

pub left_of_whole : (letters : List ℕ) → left_of (width letters) 0 false letters ≡ name_text letters
left_of_whole letters = whole-either (nat_le (width letters) 70) letters refl

pub left_of_none : (whole before : ℕ) (is_cut : Bool) → left_of whole before is_cut [] ≡ []
unfolding left_of
left_of_none whole before is_cut = refl

pub next_letter : {X : Type 0} (left : List ℕ → X) (letters : List ℕ) (place letter : ℕ) → (place < length letters) × (letter ≡ get_or letters place letter) → left (drop place letters) ≡ left (letter ∷ drop (place + 1) letters)
next_letter left letters place letter turn =
    at_drop_more left letters place letter turn.0 ∙ ap (λ (l : ℕ). left (l ∷ drop (place + 1) letters)) (sym turn.1)

pub shows_letter : (old now new : Canvas) (text letters : List ℕ) (whole before : ℕ) (is_cut : Bool) (place letter : ℕ) → (place < length letters) × (letter ≡ get_or letters place letter) → is_shown whole before (before + width_of letter) ≡ true → Leaves old now text (left_of whole before is_cut (drop place letters)) → Puts now new (escaped letter) → Leaves old new text (left_of whole (before + width_of letter) is_cut (drop (place + 1) letters))
shows_letter old now new text letters whole before is_cut place letter turn is leaves puts =
    let left_is = next_letter (left_of whole before is_cut) letters place letter turn ∙ left-shown whole before is_cut letter (drop (place + 1) letters) is in
    leaves_less old now new text (escaped letter) _ (subst (λ (l : List ℕ). Leaves old now text l) left_is leaves) puts

pub cuts : (old now new : Canvas) (text letters : List ℕ) (whole before place letter : ℕ) → (place < length letters) × (letter ≡ get_or letters place letter) → is_shown whole before (before + width_of letter) ≡ false → Leaves old now text (left_of whole before false (drop place letters)) → Puts now new (encode_utf8 8230) → Leaves old new text (left_of whole (before + width_of letter) true (drop (place + 1) letters))
cuts old now new text letters whole before place letter turn is leaves puts =
    let left_is = next_letter (left_of whole before false) letters place letter turn ∙ left-hidden whole before false letter (drop (place + 1) letters) is in
    leaves_less old now new text (encode_utf8 8230) _ (subst (λ (l : List ℕ). Leaves old now text l) left_is leaves) puts

pub hides_letter : (old now : Canvas) (text letters : List ℕ) (whole before place letter : ℕ) → (place < length letters) × (letter ≡ get_or letters place letter) → is_shown whole before (before + width_of letter) ≡ false → Leaves old now text (left_of whole before true (drop place letters)) → Leaves old now text (left_of whole (before + width_of letter) true (drop (place + 1) letters))
hides_letter old now text letters whole before place letter turn is leaves =
    let left_is = next_letter (left_of whole before true) letters place letter turn ∙ left-hidden whole before true letter (drop (place + 1) letters) is in
    subst (λ (l : List ℕ). Leaves old now text l) left_is leaves

pub end_of_letter : (letters : List ℕ) (place letter before wide end whole : ℕ) → (place < length letters) × (letter ≡ get_or letters place letter) → before + width (drop place letters) ≡ whole → whole < 18446744073709551616 → wide ≡ width_of letter → end ≡ min (before + wide) 18446744073709551615 → (end ≡ before + width_of letter) × (end + width (drop (place + 1) letters) ≡ whole)
end_of_letter letters place letter before wide end whole turn sum fits wide_is end_is =
    let rest : width (drop place letters) ≡ width_of letter + width (drop (place + 1) letters) = next_letter width letters place letter turn in
    (omega arith, omega arith)

pub moved : (old new : Canvas) (text letters : List ℕ) (whole end end_is : ℕ) (is_cut : Bool) (next next_is : ℕ) → end ≡ end_is → next ≡ next_is → Leaves old new text (left_of whole end_is is_cut (drop next_is letters)) → Leaves old new text (left_of whole end is_cut (drop next letters))
moved old new text letters whole end end_is is_cut next next_is ends nexts leaves =
    subst (λ (n : ℕ). Leaves old new text (left_of whole end is_cut (drop n letters))) (sym nexts) (subst (λ (e : ℕ). Leaves old new text (left_of whole e is_cut (drop next_is letters))) (sym ends) leaves)

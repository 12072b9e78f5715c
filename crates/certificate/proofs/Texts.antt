-- The bytes before a certificate's coefficients.
use Rattle.std.proofs.Common.{◌≡◌, ◌⊎◌, ℕ, zero, suc, ◌+◌, ◌-◌, ◌<◌, ◌≤◌, ◌≢◌, true, false, Bool, List, [], ◌∷◌, ◌++◌, Some, None, drop, take, length, get_or, refl, sym, ap, subst, ◌∙◌, arith, inl, inr, length-append, length-drop, length-take-le}
use Rattle.std.specs.Prelude.{nat_eq, nat_lt, ◌==◌}
use lib.Pointwise.{pointwise}
use Rattle.std.specs.List.{starts_with}
use Rattle.std.specs.Cmp.Lexicographic.{same_text}
use Rattle.std.proofs.lemmas.Bool.{cases_Bool, cases_lt, le-leb, le-ltb, ne_eqb, eq-eqb}
use Rattle.std.proofs.lemmas.List.{append-nil, drop-append-le, take-append-le, drop-drop, get_or_append_left, get_or-drop}
use Rattle.byteorder.specs.Endian.{big_bytes, big_number}
use Rattle.byteorder.specs.Numbers.{big_from-lt}
use Rattle.lists.specs.Bytes.{AreBytes}
use Rattle.partition.specs.Fti.{Fti, fti_from}
use Rattle.partition.specs.FtiFault.{fti_fault}
use Rattle.partition.specs.declared.FtiError.{FtiError}
use Rattle.alc.specs.Computed.{number_of}
use Rattle.alc.proofs.Digits.{number_is, bytes_again}
use Rattle.alc.proofs.Bytes.{AreBytes-take, AreBytes-drop}
use Rattle.certificate.specs.declared.certificate.CertFault.TheVariants.{Magic, Fti as WrongFti, Size}
use Rattle.partition.specs.FtiBytes.{bytes_of_fti}
use Rattle.certificate.specs.Certificate.{IsIdentity, coefficient_count, magic, magic_of_named, name_text, told_fti, fault_behind, size_fault, text_fault}
use Rattle.certificate.specs.CertificateReading.{told_name, head_length}

-- ---- the magic number

abbrev is_plain : List ℕ → Bool
is_plain x = starts_with nat_eq x magic

abbrev is_named : List ℕ → Bool
is_named x = starts_with nat_eq x magic_of_named

pub plain_front : (x : List ℕ) → is_plain x ≡ true → take 4 x ≡ magic
plain_front x right = sym (same_text magic (take 4 x) (sym right))

pub named_front : (x : List ℕ) → is_named x ≡ true → take 4 x ≡ magic_of_named
named_front x right = sym (same_text magic_of_named (take 4 x) (sym right))

not_both : (x : List ℕ) → is_named x ≡ true → is_plain x ≡ false
not_both x right = ap (pointwise nat_eq magic) (named_front x right)

pub length_cases : (x : List ℕ) → 14 ≤ head_length x
length_cases x = elim (cases_Bool (is_named x)) [ inl named ↦ rw named (omega arith) | inr other ↦ rw other (omega arith) ]

-- what comes behind a head doesn't change with which four bytes it begins
front_same : (x rest : List ℕ) → (length x < head_length x → rest ≡ []) → take 4 (x ++ rest) ≡ take 4 x
front_same x rest end = elim (cases_lt (length x) 4) [
  | inl short ↦ (let none = end (omega (arith, short, length_cases x)) in ap (λ (l : List ℕ). take 4 (x ++ l)) none ∙ ap (take 4) (append-nil x))
  | inr long ↦ take-append-le 4 x rest long
]

-- the fault of a text that begins with these bytes, where the magic number is right
fault_is : (x rest : List ℕ) (named : Bool) → is_named x ≡ named → (named ≡ false → is_plain x ≡ true) → (length x < head_length x → rest ≡ [])
    → text_fault (x ++ rest) ≡ fault_behind (head_length x) (x ++ rest)
unfolding text_fault
fault_is x rest true named plain end =
    let same = front_same x rest end in
    let p : is_plain (x ++ rest) ≡ false = ap (pointwise nat_eq magic) same ∙ not_both x named in
    let n : is_named (x ++ rest) ≡ true = ap (pointwise nat_eq magic_of_named) same ∙ named in
    rw (p, n, named) refl
fault_is x rest false named plain end =
    let same = front_same x rest end in
    let p : is_plain (x ++ rest) ≡ true = ap (pointwise nat_eq magic) same ∙ plain refl in
    rw (p, named) refl

pub wrong_magic : (x rest : List ℕ) → (length x < head_length x → rest ≡ []) → is_named x ≡ false → is_plain x ≡ false → text_fault (x ++ rest) ≡ Some Magic
unfolding text_fault
wrong_magic x rest end named plain =
    let same = front_same x rest end in
    let p : is_plain (x ++ rest) ≡ false = ap (pointwise nat_eq magic) same ∙ plain in
    let n : is_named (x ++ rest) ≡ false = ap (pointwise nat_eq magic_of_named) same ∙ named in
    rw (p, n) refl

-- the file ends within the head
pub short_head : (x rest : List ℕ) (named : Bool) → is_named x ≡ named → (named ≡ false → is_plain x ≡ true) → length x < head_length x
    → (length x < head_length x → rest ≡ []) → text_fault (x ++ rest) ≡ Some Size
short_head x rest named is plain short end =
    let less : nat_lt (length (x ++ rest)) (head_length x) ≡ true = rw (end short, append-nil x) (le-leb _ _ short) in
    fault_is x rest named is plain end ∙ rw less refl

-- ---- numbers

number_front : (n : ℕ) (y rest : List ℕ) → n ≤ length y → big_number n (y ++ rest) ≡ big_number n y
number_front n y rest l =
    sym (number_is n (y ++ rest) (omega (arith, l, length-append y rest))) ∙ ap number_of (take-append-le n y rest l) ∙ number_is n y l

-- the FTI in the last ten of some bytes, whatever comes behind
pub told_behind : (x rest : List ℕ) (from : ℕ) → length x ≡ from + 10 → told_fti from (x ++ rest) ≡ told_fti 0 (drop from x)
told_behind x rest from long =
    let y = drop from x in
    let len : length (drop from x) ≡ 10 = omega (arith, length-drop from x, long) in
    let a : big_number 6 (drop from (x ++ rest)) ≡ big_number 6 (drop from x) =
    ap (big_number 6) (drop-append-le from x rest (omega (arith, long))) ∙ number_front 6 y rest (omega (arith, len)) in
    let b : big_number 2 (drop (from + 6) (x ++ rest)) ≡ big_number 2 (drop 6 (drop from x)) =
    ap (big_number 2) (drop-append-le (from + 6) x rest (omega (arith, long)) ∙ ap (λ (l : List ℕ). l ++ rest) (sym (drop-drop 6 from x)))
    ∙ number_front 2 (drop 6 y) rest (omega (arith, length-drop 6 (drop from x), len)) in
    let c : get_or (x ++ rest) (from + 8) 0 ≡ get_or (drop from x) 8 0 = get_or_append_left x rest 0 (from + 8) (omega (arith, long)) ∙ sym (get_or-drop from x 8 0) in
    let d : get_or (x ++ rest) (from + 9) 0 ≡ get_or (drop from x) 9 0 = get_or_append_left x rest 0 (from + 9) (omega (arith, long)) ∙ sym (get_or-drop from x 9 0) in
    ap (λ (v : ℕ). fti_from v (big_number 2 (drop (from + 6) (x ++ rest))) (get_or (x ++ rest) (from + 8) 0) (get_or (x ++ rest) (from + 9) 0)) a
    ∙ ap (λ (v : ℕ). fti_from (big_number 6 (drop from x)) v (get_or (x ++ rest) (from + 8) 0) (get_or (x ++ rest) (from + 9) 0)) b
    ∙ ap (λ (v : ℕ). fti_from (big_number 6 (drop from x)) (big_number 2 (drop 6 (drop from x))) v (get_or (x ++ rest) (from + 9) 0)) c
    ∙ ap (λ (v : ℕ). fti_from (big_number 6 (drop from x)) (big_number 2 (drop 6 (drop from x))) (get_or (drop from x) 8 0) v) d

long_enough : (x rest : List ℕ) (n : ℕ) → length x ≡ n → nat_lt (length (x ++ rest)) n ≡ false
long_enough x rest n h = le-ltb (length (x ++ rest)) n (omega (arith, h, length-append x rest))

-- the numbers of the head are no FTI
pub wrong_fti : (x rest : List ℕ) (named : Bool) (e : FtiError) → is_named x ≡ named → (named ≡ false → is_plain x ≡ true) → length x ≡ head_length x
    → fti_fault (told_fti 0 (drop (head_length x - 10) x)) ≡ Some e → text_fault (x ++ rest) ≡ Some (WrongFti e)
wrong_fti x rest named e is plain whole wrong =
    let h = head_length x in
    let least = length_cases x in
    let told = told_behind x rest (h - 10) (omega (arith, whole, least)) in
    let f : fti_fault (told_fti (head_length x - 10) (x ++ rest)) ≡ Some e = ap fti_fault told ∙ wrong in
    fault_is x rest named is plain (λ short. absurd (omega (arith, short, whole))) ∙ rw (long_enough x rest h whole, f) refl

-- other than the right number of coefficients come
pub wrong_size : (x rest : List ℕ) (named : Bool) → is_named x ≡ named → (named ≡ false → is_plain x ≡ true) → length x ≡ head_length x
    → (f : Fti) → told_fti 0 (drop (head_length x - 10) x) ≡ f → fti_fault f ≡ None → length rest ≢ coefficient_count f → text_fault (x ++ rest) ≡ Some Size
wrong_size x rest named is plain whole f told good wrong =
    let h = head_length x in
    let least = length_cases x in
    let t : told_fti (head_length x - 10) (x ++ rest) ≡ f = told_behind x rest (h - 10) (omega (arith, whole, least)) ∙ told in
    let count = ap coefficient_count t in
    let n : (length (x ++ rest) == head_length x + coefficient_count (told_fti (head_length x - 10) (x ++ rest))) ≡ false =
    ne_eqb _ _ (λ e. wrong (omega (arith, e, whole, count, length-append x rest))) in
    let none : size_fault (head_length x) (x ++ rest) None ≡ Some Size = rw n refl in
    fault_is x rest named is plain (λ short. absurd (omega (arith, short, whole)))
    ∙ rw (long_enough x rest h whole) (ap (size_fault h (x ++ rest)) (ap fti_fault t ∙ good) ∙ none)

-- the right number of them
pub right_size : (x rest : List ℕ) (named : Bool) → is_named x ≡ named → (named ≡ false → is_plain x ≡ true) → length x ≡ head_length x
    → (f : Fti) → told_fti 0 (drop (head_length x - 10) x) ≡ f → fti_fault f ≡ None → length rest ≡ coefficient_count f → text_fault (x ++ rest) ≡ None
right_size x rest named is plain whole f told good right =
    let h = head_length x in
    let least = length_cases x in
    let t : told_fti (head_length x - 10) (x ++ rest) ≡ f = told_behind x rest (h - 10) (omega (arith, whole, least)) ∙ told in
    let count = ap coefficient_count t in
    let n : (length (x ++ rest) == head_length x + coefficient_count (told_fti (head_length x - 10) (x ++ rest))) ≡ true =
    eq-eqb _ _ (omega (arith, right, whole, count, length-append x rest)) in
    let none : size_fault (head_length x) (x ++ rest) None ≡ None = rw n refl in
    fault_is x rest named is plain (λ short. absurd (omega (arith, short, whole)))
    ∙ rw (long_enough x rest h whole) (ap (size_fault h (x ++ rest)) (ap fti_fault t ∙ good) ∙ none)

-- ---- what is read is what would be written

number_back : (n : ℕ) (y : List ℕ) → AreBytes y → n ≤ length y → big_bytes n (big_number n y) ≡ take n y
number_back n y h l =
    ap (big_bytes n) (sym (number_is n y l))
    ∙ (let len = length-take-le n y l in subst (λ (m : ℕ). big_bytes m (number_of (take n y)) ≡ take n y) len (bytes_again (take n y) (AreBytes-take n y h)))

-- the first n members, one by one
abbrev spread : ℕ → List ℕ → List ℕ
spread zero x = []
spread (suc n) x = get_or x 0 0 ∷ spread n (drop 1 x)

spread_is : (n : ℕ) (x : List ℕ) → length x ≡ n → x ≡ spread n x
spread_is zero [] h = refl
spread_is zero (y ∷ ys) h = absurd (omega arith)
spread_is (suc n) [] h = absurd (omega arith)
spread_is (suc n) (y ∷ ys) h = ap (λ (l : List ℕ). y ∷ l) (spread_is n ys (omega arith))

parts : (x : List ℕ) → length x ≡ 10 → x ≡ take 6 x ++ (take 2 (drop 6 x) ++ (get_or x 8 0 ∷ get_or x 9 0 ∷ []))
parts x h = subst (λ (y : List ℕ). y ≡ take 6 y ++ (take 2 (drop 6 y) ++ (get_or y 8 0 ∷ get_or y 9 0 ∷ []))) (sym (spread_is 10 x h)) refl

pub fti_again : (y : List ℕ) → length y ≡ 10 → AreBytes y → y ≡ bytes_of_fti (told_fti 0 y)
fti_again y h bytes =
    let length_bytes = number_back 6 y bytes (omega (arith, h)) in
    let symbol_bytes = number_back 2 (drop 6 y) (AreBytes-drop 6 y bytes) (omega (arith, h, length-drop 6 y)) in
    let last = get_or y 8 0 ∷ get_or y 9 0 ∷ [] in
    parts y h
    ∙ ap (λ (l : List ℕ). l ++ (take 2 (drop 6 y) ++ last)) (sym length_bytes)
    ∙ ap (λ (l : List ℕ). big_bytes 6 (big_number 6 y) ++ (l ++ last)) (sym symbol_bytes)

halves : (x : List ℕ) → length x ≡ 20 → x ≡ take 6 x ++ take 14 (drop 6 x)
halves x h = subst (λ (y : List ℕ). y ≡ take 6 y ++ take 14 (drop 6 y)) (sym (spread_is 20 x h)) refl

pub name_again : (y : List ℕ) → length y ≡ 20 → AreBytes y → y ≡ name_text (told_name y)
name_again y h bytes =
    let tsi_bytes = number_back 6 y bytes (omega (arith, h)) in
    let toi_bytes = number_back 14 (drop 6 y) (AreBytes-drop 6 y bytes) (omega (arith, h, length-drop 6 y)) in
    halves y h ∙ ap (λ (l : List ℕ). l ++ take 14 (drop 6 y)) (sym tsi_bytes) ∙ ap (λ (l : List ℕ). big_bytes 6 (big_number 6 y) ++ l) (sym toi_bytes)

pub name_in_range : (y : List ℕ) → AreBytes y → IsIdentity (told_name y)
name_in_range y bytes = record { tsi = big_from-lt 0 6 y bytes; toi = big_from-lt 0 14 (drop 6 y) (AreBytes-drop 6 y bytes) }

-- how long a head is doesn't change with what comes behind its front
pub head_length_front : (x rest : List ℕ) → 4 ≤ length x → head_length (x ++ rest) ≡ head_length x
head_length_front x rest long = let n : is_named (x ++ rest) ≡ is_named x = ap (pointwise nat_eq magic_of_named) (take-append-le 4 x rest long) in rw n refl

pub length_known : (x : List ℕ) → (head_length x ≡ 14) ⊎ (head_length x ≡ 34)
length_known x = elim (cases_Bool (is_named x)) [ inl named ↦ inr (rw named refl) | inr other ↦ inl (rw other refl) ]

-- Bytes have no fault exactly where they are the text of a certificate.
use Rattle.std.specs.Prelude.{IfSome, nat_eq, nat_lt}
use Rattle.std.specs.List.{starts_with}
use Rattle.std.proofs.Common.{◌≡◌, ℕ, ◌+◌, ◌-◌, ◌≤◌, Bool, true, false, List, [], ◌++◌, Option, Some, None, take, drop, length, refl, sym, ap, ◌∙◌, inl, inr, arith, length-take-le, length-drop}
use Rattle.std.proofs.lemmas.Bool.{cases_lt, cases_eq, le-leb, le-ltb, ne_eqb}
use Rattle.std.proofs.lemmas.List.{append-nil, take-append-drop, drop-drop, drop-take}
use Rattle.byteorder.specs.Numbers.{big_from-lt}
use Rattle.lists.specs.Bytes.{AreBytes}
use Rattle.alc.proofs.Bytes.{AreBytes-drop, AreBytes-take}
use Rattle.partition.specs.Fti.{Fti, IsValidFti}
use Rattle.partition.specs.FtiFault.{fti_fault}
use Rattle.partition.specs.declared.FtiError.{FtiError}
use Rattle.partition.proofs.Faults.{valid_no_fault, no_fault_valid}
use Rattle.reception.specs.declared.scope.Identity.{Identity}
use Rattle.certificate.specs.declared.certificate.CertFault.TheVariants.{Magic, Size}
use Rattle.partition.specs.FtiBytes.{bytes_of_fti}
use Rattle.certificate.specs.Certificate.{Certificate, IsCertificate, IsIdentity, coefficient_count, magic, magic_of_named, name_text, head_text, coefficients_text, IsTextOfSome, told_fti, size_fault, fault_behind, text_fault}
use Rattle.certificate.specs.CertificateReading.{told_name}
use Rattle.certificate.proofs.Texts.{plain_front, named_front, told_behind, right_size, fti_again, name_again, name_in_range}
use Rattle.certificate.proofs.OneText.{fti_back}
use Rattle.certificate.proofs.TextPlaces.{length_text}
use Rattle.certificate.proofs.RowsOfText.{told_by, told_text, told_form}

-- ---- a text has no fault

pub length_coefficients : (name : Option Identity) (z : Certificate) → IsCertificate z → length (coefficients_text name z) ≡ coefficient_count z.fti
length_coefficients None z form = length_text z form.fti
length_coefficients (Some who) z form = form.count

right_behind : (name : Option Identity) (f : Fti) (rest : List ℕ) → IsValidFti f → length rest ≡ coefficient_count f → text_fault (head_text name f ++ rest) ≡ None
unfolding head_text
right_behind None f rest valid count =
    right_size (head_text None f) rest false refl (λ e. refl) refl f (ap (told_fti 0) (sym (append-nil (bytes_of_fti f))) ∙ fti_back f [] valid) (valid_no_fault f valid) count
right_behind (Some who) f rest valid count =
    right_size (head_text (Some who) f) rest true refl (λ e. absurd (cc)) refl f (ap (told_fti 0) (sym (append-nil (bytes_of_fti f))) ∙ fti_back f [] valid) (valid_no_fault f valid) count

pub has_no_fault : (x : List ℕ) → IsTextOfSome x → text_fault x ≡ None
has_no_fault x text = ap text_fault text.2 ∙ right_behind text.0.name text.0.fti (coefficients_text text.0.name text.0) text.1.fti (length_coefficients text.0.name text.0 text.1)

-- ---- bytes without a fault are a text

-- what the fault behind a magic number says where there is none
record IsRight (head : ℕ) (x : List ℕ) : Type 0 where
  long : head ≤ length x
  good : fti_fault (told_fti (head - 10) x) ≡ None
  count : length x ≡ head + coefficient_count (told_fti (head - 10) x)

size_right : (head : ℕ) (x : List ℕ) (fault : Option FtiError) → size_fault head x fault ≡ None → (fault ≡ None) × (length x ≡ head + coefficient_count (told_fti (head - 10) x))
size_right head x (Some e) none = absurd (cc)
size_right head x None none = (
  refl,
  elim (cases_eq (length x) (head + coefficient_count (told_fti (head - 10) x))) [
    | inl same ↦ same
    | inr other ↦ absurd (let w : Some Size ≡ None = rw (ne_eqb _ _ other) at none in cc)
  ],
)

right_of : (head : ℕ) (x : List ℕ) → fault_behind head x ≡ None → IsRight head x
right_of head x none = elim (cases_lt (length x) head) [
  | inl short ↦ absurd (let less : nat_lt (length x) head ≡ true = le-leb _ _ short in let w : Some Size ≡ None = rw less at none in cc)
  | inr long ↦
      (let w = size_right head x (fti_fault (told_fti (head - 10) x)) (rw (le-ltb (length x) head long) at none) in
      record { long = long; good = w.0; count = w.1 })
]

valid_told : (from : ℕ) (x : List ℕ) → AreBytes x → fti_fault (told_fti from x) ≡ None → IsValidFti (told_fti from x)
valid_told from x bytes good =
    no_fault_valid (told_fti from x) (big_from-lt 0 2 (drop (from + 6) x) (AreBytes-drop (from + 6) x bytes)) (bytes (from + 9)) good

module _ (x : List ℕ) (bytes : AreBytes x) where
  -- the FTI that stands at a place
  fti_here : (from : ℕ) → from + 10 ≤ length x → take 10 (drop from x) ≡ bytes_of_fti (told_fti from x)
  fti_here from long =
      let here = take 10 (drop from x) in
      let told : told_fti from x ≡ told_fti 0 (take 10 (drop from x)) =
      ap (told_fti from) (sym (take-append-drop (from + 10) x))
      ∙ told_behind (take (from + 10) x) (drop (from + 10) x) from (length-take-le (from + 10) x long) ∙ ap (told_fti 0) (drop-take from 10 x) in
      fti_again here (length-take-le 10 (drop from x) (omega (arith, long, length-drop from x))) (AreBytes-take 10 (drop from x) (AreBytes-drop from x bytes))
      ∙ ap bytes_of_fti (sym told)

  -- it, and what stands behind it
  fti_behind : (from : ℕ) → from + 10 ≤ length x → drop from x ≡ bytes_of_fti (told_fti from x) ++ drop (from + 10) x
  fti_behind from long =
      sym (take-append-drop 10 (drop from x)) ∙ ap (λ (l : List ℕ). l ++ drop 10 (drop from x)) (fti_here from long)
      ∙ ap (λ (l : List ℕ). bytes_of_fti (told_fti from x) ++ l) (drop-drop 10 from x)

  certificate_of : (name : Option Identity) → IfSome name IsIdentity → (from : ℕ) → IsRight (from + 10) x → x ≡ head_text name (told_fti from x) ++ drop (from + 10) x → IsTextOfSome x
  certificate_of name named from right text =
      let t = drop (from + 10) x in
      let f = told_fti from x in
      let at : from + 10 - 10 ≡ from = omega arith in
      let good : fti_fault (told_fti from x) ≡ None = rw at at right.good in
      let valid = valid_told from x bytes good in
      let counted : length x ≡ from + 10 + coefficient_count (told_fti from x) = rw at at right.count in
      let count : length (drop (from + 10) x) ≡ coefficient_count (told_fti from x) = omega (arith, counted, length-drop (from + 10) x) in (
        told_by name f t,
        told_form f t valid count name named (AreBytes-drop (from + 10) x bytes),
        text ∙ ap (λ (l : List ℕ). head_text name f ++ l) (told_text f t valid count name),
      )

  plain_text : starts_with nat_eq x magic ≡ true → IsRight 14 x → IsTextOfSome x
  unfolding head_text
  plain_text plain right =
      certificate_of None tt 4 right
      (sym (take-append-drop 4 x) ∙ ap (λ (l : List ℕ). l ++ drop 4 x) (plain_front x plain)
      ∙ ap (λ (l : List ℕ). magic ++ l) (fti_behind 4 right.long))

  named_text : starts_with nat_eq x magic_of_named ≡ true → IsRight 34 x → IsTextOfSome x
  unfolding head_text
  named_text named right =
      let part = take 20 (drop 4 x) in
      let part_long : length (take 20 (drop 4 x)) ≡ 20 = length-take-le 20 (drop 4 x) (omega (arith, right.long, length-drop 4 x)) in
      let part_bytes = AreBytes-take 20 (drop 4 x) (AreBytes-drop 4 x bytes) in
      certificate_of (Some (told_name part)) (name_in_range part part_bytes) 24 right
      (sym (take-append-drop 4 x) ∙ ap (λ (l : List ℕ). l ++ drop 4 x) (named_front x named)
      ∙ ap (λ (l : List ℕ). magic_of_named ++ l) (sym (take-append-drop 20 (drop 4 x)))
      ∙ ap (λ (l : List ℕ). magic_of_named ++ (l ++ drop 20 (drop 4 x))) (name_again part part_long part_bytes)
      ∙ ap (λ (l : List ℕ). magic_of_named ++ (name_text (told_name part) ++ l)) (drop-drop 20 4 x ∙ fti_behind 24 right.long))

  -- by the magic number
  by_magic : (plain named : Bool) → starts_with nat_eq x magic ≡ plain → starts_with nat_eq x magic_of_named ≡ named → text_fault x ≡ None → IsTextOfSome x
  unfolding text_fault
  by_magic true named p n none = plain_text p (right_of 14 x (rw p at none))
  by_magic false true p n none = named_text n (right_of 34 x (rw (p, n) at none))
  by_magic false false p n none = absurd (let w : Some Magic ≡ None = rw (p, n) at none in cc)

  pub a_text : text_fault x ≡ None → IsTextOfSome x
  a_text none = by_magic (starts_with nat_eq x magic) (starts_with nat_eq x magic_of_named) refl refl none

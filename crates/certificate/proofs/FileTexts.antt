-- The text of a certificate, of whose bytes the first were read.
use Rattle.std.proofs.Common.{◌≡◌, ◌≢◌, ℕ, zero, suc, ◌+◌, ◌*◌, ◌<◌, ◌≤◌, List, [], ◌∷◌, ◌++◌, Bool, true, false, Option, Some, None, length, take, drop, get_or, length-append, length-drop, refl, sym, ap, inl, ◌∙◌, arith}
use Rattle.std.specs.Prelude.{IfSome, OnOk, Result, Ok, Err, slice_index, ◌↔◌, IsTrue}
use Rattle.std.specs.Io.KnownBytes.{Consumes}
use Rattle.std.proofs.lemmas.List.{get_or-drop}
use Rattle.std.proofs.lemmas.Simd.{get_or-chunk}
use Rattle.std.proofs.Math.Nat.{mul-le-mul_right, mul_comm}
use Rattle.gf256.proofs.RowPlaces.{row_ends, rows_apart}
use Rattle.lists.specs.Bytes.{AreBytes}
use Rattle.alc.proofs.Bytes.{AreBytes-drop}
use Rattle.streams.specs.Offsets.{EndsBy, StandsAt}
use Rattle.partition.proofs.Laws.{block_end}
use Rattle.partition.specs.Fti.{Fti, IsValidFti, block_count, source_count, start_of}
use Rattle.partition.specs.FtiFault.{fti_fault}
use Rattle.reception.specs.declared.scope.Identity.{Identity}
use Rattle.certificate.specs.Certificate.{IsCertificate, IsIdentity, certificate_text, coefficients_text, coefficient_count, head_text, text_fault}
use Rattle.certificate.specs.declared.certificate.CertFault.TheVariants.{Size}
use Rattle.certificate.specs.CoefficientRows.{AreRowsOf, text_place}
use Rattle.certificate.specs.InFile.{HoldsText, IsLost, certificate_in, front_of}
use Rattle.certificate.proofs.BlockSymbols.{rows_are}
use Rattle.certificate.proofs.Consuming.{size_behind}
use Rattle.certificate.proofs.RowsOfText.{row_at, told_form, told_text}
use Rattle.certificate.proofs.TextsWithoutFault.{length_coefficients}

pub has_it : (o : Option (List ℕ)) (has : Bool) (n : ℕ) → has ≡ true → IfSome o (λ x. IsTrue has ↔ (length x ≡ n)) → IfSome o (λ x. length x ≡ n)
has_it None has n e h = tt
has_it (Some x) has n e h = h.0 e

pub has_other : (o : Option (List ℕ)) (has : Bool) (n : ℕ) → has ≡ false → IfSome o (λ x. IsTrue has ↔ (length x ≡ n)) → IfSome o (λ x. length x ≢ n)
has_other None has n e h = tt
has_other (Some x) has n e h = λ is. let wrong : true ≡ false = sym (h.1 is) ∙ e in absurd (cc)

long_front : (name : Option Identity) (f : Fti) → length (head_text name f) ≡ front_of name
unfolding head_text
long_front (Some who) f = refl
long_front None f = refl

behind_front : (name : Option Identity) (f : Fti) (rest : List ℕ) → drop (front_of name) (head_text name f ++ rest) ≡ rest
unfolding head_text
behind_front (Some who) f rest = refl
behind_front None f rest = refl

module _ (f : Fti) (name : Option Identity) (valid : IsValidFti f) (good : fti_fault f ≡ None) (own : IfSome name IsIdentity) where
  is_text : (x rest : List ℕ) → x ≡ head_text name f ++ rest → length x ≡ front_of name + coefficient_count f → AreBytes x
      → IsCertificate (certificate_in x f name) × (x ≡ certificate_text (certificate_in x f name))
  is_text x rest is long each =
      let told = drop (front_of name) x in
      let behind : drop (front_of name) x ≡ rest = ap (λ (l : List ℕ). drop (front_of name) l) is ∙ behind_front name f rest in
      let count : length (drop (front_of name) x) ≡ coefficient_count f = length-drop (front_of name) x ∙ omega (arith, long) in (
        told_form f told valid count name own (AreBytes-drop (front_of name) x each),
        is ∙ ap (λ (l : List ℕ). head_text name f ++ l) (sym behind ∙ told_text f told valid count name),
      )

  module _ (content here new : Option (List ℕ)) (starts : (x : List ℕ) → content ≡ Some x → here ≡ Some x) (read : Consumes here new (head_text name f)) where
    -- the bytes behind the head
    behind : (x : List ℕ) → content ≡ Some x → (rest : List ℕ) × (x ≡ head_text name f ++ rest)
    behind x told = by new (rw (starts x told) at read) where
      by : (left : Option (List ℕ)) → Consumes (Some x) left (head_text name f) → (rest : List ℕ) × (x ≡ head_text name f ++ rest)
      by None h = absurd h
      by (Some rest) h = (rest, h)

    pub holds_text : (o : Option (List ℕ)) → content ≡ o → IfSome o AreBytes → IfSome o (λ x. length x ≡ front_of name + coefficient_count f) → HoldsText o f name
    holds_text None told each long = tt
    holds_text (Some x) told each long = let w = behind x told in is_text x w.0 w.1 long each

    pub wrong_length : (o : Option (List ℕ)) → content ≡ o → IfSome o (λ x. length x ≢ front_of name + coefficient_count f) → IfSome o (λ x. text_fault x ≡ Some Size)
    wrong_length None told wrong = tt
    wrong_length (Some x) told wrong =
        let w = behind x told in
        rw w.1 (size_behind name f w.0 good valid
        (λ e. wrong (ap (λ (l : List ℕ). length l) w.1 ∙ length-append (head_text name f) w.0 ∙ ap (λ (n : ℕ). n + length w.0) (long_front name f) ∙ ap (λ (n : ℕ). front_of name + n) e)))

-- ---- the rows of a block

drop-nil : (m : ℕ) → drop {A = ℕ} m [] ≡ []
drop-nil zero = refl
drop-nil (suc m) = refl

drops : (m n : ℕ) (l : List ℕ) → drop (n + m) l ≡ drop m (drop n l)
drops m zero l = let e : 0 + m ≡ m = omega arith in ap (λ (k : ℕ). drop k l) e
drops m (suc n) [] = drop-nil (suc n + m) ∙ sym (drop-nil m)
drops m (suc n) (x ∷ l) = let e : suc n + m ≡ suc (n + m) = omega arith in ap (λ (k : ℕ). drop k (x ∷ l)) e ∙ drops m n l

module _ (f : Fti) (valid : IsValidFti f) (b : ℕ) (hb : b < block_count f) where
  room : start_of f b * f.symbol_length + source_count f b * f.symbol_length ≤ coefficient_count f
  room = omega (arith, mul-le-mul_right f.symbol_length (block_end f valid b hb), rows_apart (start_of f b) (source_count f b) f.symbol_length)

  -- a file that ends before them isn't as it was
  pub lost : (name : Option Identity) (o : Option (List ℕ)) (reliable : Bool) (from got : ℕ) → from ≡ front_of name + start_of f b * f.symbol_length → got < source_count f b * f.symbol_length
      → HoldsText o f name → EndsBy o (from + got) → IsLost o reliable
  lost name None reliable from got begin short holds end = inl refl
  lost name (Some text) reliable from got begin short holds end =
      let z = certificate_in text f name in
      let size = ap (λ (l : List ℕ). length l) holds.1 ∙ length-append (head_text name f) (coefficients_text name z) in
      absurd (omega (arith, room, begin, short, end, size, long_front name f, length_coefficients name z holds.0))

  -- these are the rows, where they stand row by row
  pub rows_there : (name : Option Identity) (who : Identity) → name ≡ Some who → (text rows : List ℕ) → length rows ≡ source_count f b * f.symbol_length
      → HoldsText (Some text) f name → StandsAt (Some text) (front_of name + start_of f b * f.symbol_length) rows → AreRowsOf (certificate_in text f name) b rows
  rows_there None who e text rows long holds stands = absurd (cc)
  rows_there (Some w) who e text rows long holds stands =
      let from : ℕ = 34 + start_of f b * f.symbol_length in
      rows_are (certificate_in text f (Some w)) holds.0 b hb (source_count f b) f.symbol_length refl refl (start_of f b) rows refl
      (stands ∙ ap (λ (m : ℕ). take m (drop from text)) long ∙ ap (λ (l : List ℕ). take (source_count f b * f.symbol_length) l) (drops (start_of f b * f.symbol_length) 34 text))

  -- and these, where they stand column by column
  pub rows_turned : (name : Option Identity) → name ≡ None → (text columns rows : List ℕ) → length columns ≡ source_count f b * f.symbol_length
      → StandsAt (Some text) (front_of name + start_of f b * f.symbol_length) columns
      → ((i c : ℕ) → i < source_count f b → c < f.symbol_length → slice_index rows (i * f.symbol_length + c) ≡ slice_index columns (c * source_count f b + i))
      → AreRowsOf (certificate_in text f name) b rows
  rows_turned (Some who) e text columns rows long stands turned = absurd (cc)
  rows_turned None e text columns rows long stands turned = λ i c li lc.
      let from : ℕ = 14 + start_of f b * f.symbol_length in
      let at : ℕ = c * source_count f b + i in
      let ends = row_ends c f.symbol_length (source_count f b) lc in
      let inside : c * source_count f b + i < source_count f b * f.symbol_length = omega (arith, ends, li, mul_comm f.symbol_length (source_count f b)) in
      let place : 14 + start_of f b * f.symbol_length + (c * source_count f b + i) ≡ 14 + text_place f b c i = omega arith in
      turned i c li lc
      ∙ ap (λ (l : List ℕ). get_or l at 0) stands
      ∙ ap (λ (n : ℕ). get_or (take n (drop from text)) at 0) long
      ∙ get_or-chunk from (source_count f b * f.symbol_length) text at 0 inside
      ∙ ap (λ (p : ℕ). get_or text p 0) place
      ∙ sym (get_or-drop 14 text (text_place f b c i) 0)
      ∙ sym (row_at f (drop 14 text) valid b i c hb li lc)

pub on_ok : {A E P Q : Type 0} (r : Result A E) → (P → Q) → OnOk r P → OnOk r Q
on_ok (Ok x) f p = f p
on_ok (Err e) f p = tt

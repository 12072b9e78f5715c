-- The FTI in its extension.
use Rattle.std.proofs.Common.{◌≡◌, ℕ, suc, ◌+◌, ◌^◌, ◌<◌, ◌≤◌, true, List, [], ◌∷◌, ◌++◌, length, take, drop, get_or, arith, refl, ap, sym, subst, ◌∙◌}
use Rattle.std.proofs.lemmas.Bool.{eqb-true}
use Rattle.std.proofs.lemmas.Bool.Decides.{nat_tests}
use Rattle.std.proofs.lemmas.List.{length-drop, take_all, get_or-drop}
use Rattle.lists.specs.Bytes.{AreBytes}
use Rattle.partition.specs.Fti.{Fti, IsValidFti}
use Rattle.partition.specs.FtiBytes.{fti_of_bytes}
use Rattle.alc.specs.Packet.{is_extension, fti_extension}
use Rattle.alc.specs.PacketFault.{is_fti, HasFields}
use Rattle.alc.specs.Computed.{part, fti_in, number_of}
use Rattle.byteorder.specs.Endian.{big_from, big_bytes}
use Rattle.alc.proofs.Digits.{number_is, number_again, bytes_again, number_below}
use Rattle.alc.proofs.Bytes.{AreBytes-part, length-part, cut}

fti_made : (a b c d x y z w : ℕ) → a ≡ x → b ≡ y → c ≡ z → d ≡ w → ◌≡◌ {A = Fti} (record { transfer_length = a; symbol_length = b; block_length = c; max_symbols = d }) (record { transfer_length = x; symbol_length = y; block_length = z; max_symbols = w })
fti_made a b c d x y z w p q r s = cc

-- what is written is read
pub fti_again : (f : Fti) → HasFields f → fti_in (part 2 10 (fti_extension f)) ≡ f
fti_again f h = fti_made _ _ _ _ f.transfer_length f.symbol_length f.block_length f.max_symbols (number_again 6 f.transfer_length h.length_below) (number_again 2 f.symbol_length h.symbol_below) refl refl

two_last : (xs : List ℕ) → length xs ≡ 2 → xs ≡ get_or xs 0 0 ∷ get_or xs 1 0 ∷ []
two_last [] h = absurd (omega arith)
two_last (a ∷ []) h = absurd (omega arith)
two_last (a ∷ b ∷ []) h = refl
two_last (a ∷ b ∷ c ∷ xs) h = absurd (omega arith)

pub big_part : (from size : ℕ) (xs : List ℕ) → from + size ≤ length xs → AreBytes xs → big_bytes size (number_of (part from size xs)) ≡ part from size xs
big_part from size xs fits h =
    let len = length-part from size xs fits in
    let again = bytes_again (part from size xs) (AreBytes-part from size xs h) in
    subst (λ (k : ℕ). big_bytes k (number_of (part from size xs)) ≡ part from size xs) len again

content_again : (xs : List ℕ) → length xs ≡ 10 → AreBytes xs → big_bytes 6 (fti_in xs).transfer_length ++ big_bytes 2 (fti_in xs).symbol_length ++ (fti_in xs).block_length ∷ (fti_in xs).max_symbols ∷ [] ≡ xs
content_again xs len h =
    let last : drop 8 xs ≡ get_or xs 8 0 ∷ get_or xs 9 0 ∷ [] = two_last (drop 8 xs) (omega (arith, length-drop 8 xs)) ∙ (rw (get_or-drop 8 xs 0 0, get_or-drop 8 xs 1 0) refl) in
    let whole : part 0 6 xs ++ (part 6 2 xs ++ (get_or xs 8 0 ∷ get_or xs 9 0 ∷ [])) ≡ xs =
    ap (λ (r : List ℕ). part 0 6 xs ++ (part 6 2 xs ++ r)) (sym last) ∙ ap (λ (r : List ℕ). part 0 6 xs ++ r) (sym (cut 6 2 xs)) ∙ sym (cut 0 6 xs) in
    ap (λ (r : List ℕ). r ++ (big_bytes 2 (fti_in xs).symbol_length ++ (get_or xs 8 0 ∷ get_or xs 9 0 ∷ []))) (big_part 0 6 xs (omega arith) h)
    ∙ ap (λ (r : List ℕ). part 0 6 xs ++ (r ++ (get_or xs 8 0 ∷ get_or xs 9 0 ∷ []))) (big_part 6 2 xs (omega arith) h)
    ∙ whole

pub words_is : (t w : ℕ) (rest : List ℕ) → is_extension (t ∷ w ∷ rest) ≡ true → is_fti (t ∷ w ∷ rest) ≡ true → length rest ≡ 10 → (t ≡ 64) × (w ≡ 3)
words_is t w rest h f len = (eqb-true t 64 f, grind (arith, nat_tests))

-- what is read is written
pub extension_again : (e : List ℕ) → is_extension e ≡ true → is_fti e ≡ true → length e ≡ 12 → AreBytes e → fti_extension (fti_in (part 2 10 e)) ≡ e
extension_again [] h f len bytes = absurd (omega arith)
extension_again (t ∷ []) h f len bytes = absurd (omega arith)
extension_again (t ∷ w ∷ rest) h f len bytes =
    let ten : length rest ≡ 10 = omega arith in
    let tw = words_is t w rest h f ten in
    let all : take 10 rest ≡ rest = take_all 10 rest (omega arith) in
    rw (all, tw.0, tw.1) (ap (λ (r : List ℕ). 64 ∷ 3 ∷ r) (content_again rest ten (λ i. bytes (suc (suc i)))))

pub has_fields : (xs : List ℕ) → length xs ≡ 10 → AreBytes xs → HasFields (fti_in xs)
has_fields xs len h =
    let a : number_of (part 0 6 xs) < 256 ^ 6 = rw (length-part 0 6 xs (omega arith)) at (number_below (part 0 6 xs) (AreBytes-part 0 6 xs h)) in
    let b : number_of (part 6 2 xs) < 256 ^ 2 = rw (length-part 6 2 xs (omega arith)) at (number_below (part 6 2 xs) (AreBytes-part 6 2 xs h)) in
    record { length_below = a; symbol_below = b; block_below = h 8; max_below = h 9 }

pub fields_of : (f : Fti) → IsValidFti f → HasFields f
fields_of f v = record { length_below = v.length_below; symbol_below = v.symbol_below; block_below = omega (arith, v.no_more, v.max_below); max_below = v.max_below }

-- ---- the fields as the code reads them

pub length_field : (xs : List ℕ) → length xs ≡ 10 → (fti_in xs).transfer_length ≡ big_from 0 6 xs
length_field xs h = number_is 6 xs (omega arith)

pub symbol_field : (xs : List ℕ) → length xs ≡ 10 → (fti_in xs).symbol_length ≡ big_from 0 2 (drop 6 xs)
symbol_field xs h = number_is 2 (drop 6 xs) (omega (arith, length-drop 6 xs))

pub content_is : (xs : List ℕ) → length xs ≡ 10 → fti_of_bytes xs ≡ fti_in xs
content_is xs h = fti_made _ _ _ _ _ _ _ _ (sym (length_field xs h)) (sym (symbol_field xs h)) refl refl

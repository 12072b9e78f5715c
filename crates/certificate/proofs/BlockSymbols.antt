-- A block's coefficients as rows, and the symbols that are made of them.
use Rattle.std.proofs.Common.{◌≡◌, ℕ, ◌+◌, ◌-◌, ◌*◌, ◌<◌, ◌≤◌, List, ◌++◌, length, get_or, take, drop, refl, sym, ap, ◌∙◌, arith}
use Rattle.std.proofs.lemmas.List.{get_or_append_left, length-take-le, length-drop}
use Rattle.std.proofs.lemmas.Simd.{get_or-chunk}
use Rattle.std.proofs.Math.Nat.{mul-le-mul_right}
use Rattle.gf256.proofs.RowPlaces.{row_ends, rows_apart}
use Rattle.evaluation.specs.Columns.{AreValues}
use Rattle.partition.specs.Fti.{block_count, source_count, start_of, source_place}
use Rattle.partition.proofs.Laws.{block_end}
use Rattle.certificate.specs.Certificate.{Certificate, IsCertificate, polynomial, certified_byte}
use Rattle.certificate.specs.CoefficientRows.{AreRowsOf}
use Rattle.certificate.specs.BlockSymbols.{AreSymbols}
use Rattle.certificate.proofs.Polynomials.{length_polynomial, coefficient_at}

module _ (z : Certificate) (good : IsCertificate z) (b : ℕ) (hb : b < block_count z.fti) (k width : ℕ) (k_is : k ≡ source_count z.fti b) (width_is : width ≡ z.fti.symbol_length) where
  -- a block's coefficients end within the certificate's
  pub block_within : (start : ℕ) → start ≡ start_of z.fti b → start * width + k * width ≤ length z.coefficients
  block_within start start_is =
      let most = mul-le-mul_right z.fti.symbol_length (block_end z.fti good.fti b hb) in
      let apart = rows_apart (start_of z.fti b) (source_count z.fti b) z.fti.symbol_length in
      rw (start_is, width_is, k_is) (omega (arith, most, apart, good.count))

  -- these are its rows
  pub rows_are : (start : ℕ) (rows : List ℕ) → start ≡ start_of z.fti b → rows ≡ take (k * width) (drop (start * width) z.coefficients) → AreRowsOf z b rows
  rows_are start rows start_is is = λ i c li lc.
      let ends = row_ends i (source_count z.fti b) z.fti.symbol_length li in
      let from : start * width ≡ start_of z.fti b * z.fti.symbol_length = rw (start_is, width_is) refl in
      let size : k * width ≡ source_count z.fti b * z.fti.symbol_length = rw (k_is, width_is) refl in
      let apart = rows_apart (start_of z.fti b) i z.fti.symbol_length in
      let place : start * width + (i * z.fti.symbol_length + c) ≡ source_place z.fti b i c = omega (arith, from, apart) in
      ap (λ (l : List ℕ). get_or l (i * z.fti.symbol_length + c) 0) is
      ∙ get_or-chunk (start * width) (k * width) z.coefficients (i * z.fti.symbol_length + c) 0 (omega (arith, ends, lc, size))
      ∙ ap (λ (p : ℕ). get_or z.coefficients p 0) place

  -- the values of the polynomials whose coefficients are these rows
  pub values_are : (rows values : List ℕ) (first count : ℕ) → AreRowsOf z b rows → AreValues rows k width first count values → AreSymbols z b first count values
  values_are rows values first count are made = λ r c lr lc.
      ap (λ (w : ℕ). get_or values (r * w + c) 0) (sym width_is)
      ∙ made r c (polynomial z b c) lr (omega (arith, lc, width_is))
      (record {
        count = length_polynomial z b c ∙ sym k_is;
        bytes = λ i li.
            coefficient_at z b c i (omega (arith, li, k_is))
            ∙ sym (ap (λ (w : ℕ). get_or rows (i * w + c) 0) width_is ∙ are i c (omega (arith, li, k_is)) lc);
      })

-- symbols in front of other bytes
pub symbols_in_front : (z : Certificate) (b first count : ℕ) (symbols rest : List ℕ) → length symbols ≡ count * z.fti.symbol_length
    → AreSymbols z b first count symbols → AreSymbols z b first count (symbols ++ rest)
symbols_in_front z b first count symbols rest long are = λ r c lr lc.
    let ends = row_ends r count z.fti.symbol_length lr in
    get_or_append_left symbols rest 0 (r * z.fti.symbol_length + c) (omega (arith, ends, lc, long)) ∙ are r c lr lc

-- of some symbols those from one on
pub symbols_behind : (z : Certificate) (b first count place width : ℕ) (bytes : List ℕ) → width ≡ z.fti.symbol_length → place ≤ count
    → AreSymbols z b first count bytes → AreSymbols z b (first + place) (count - place) (take (count * width - place * width) (drop (place * width) bytes))
symbols_behind z b first count place width bytes width_is le are = λ r c lr lc.
    let ends = row_ends r (count - place) z.fti.symbol_length lr in
    let apart = rows_apart place r z.fti.symbol_length in
    let split = rows_apart place (count - place) z.fti.symbol_length in
    let back : place + (count - place) ≡ count = omega (arith, le) in
    let whole : (place + (count - place)) * z.fti.symbol_length ≡ count * z.fti.symbol_length = ap (λ (m : ℕ). m * z.fti.symbol_length) back in
    let size : count * width ≡ count * z.fti.symbol_length = ap (λ (w : ℕ). count * w) width_is in
    let front : place * width ≡ place * z.fti.symbol_length = ap (λ (w : ℕ). place * w) width_is in
    let inside : r * z.fti.symbol_length + c < count * width - place * width = omega (arith, ends, lc, split, whole, size, front) in
    let at : place * width + (r * z.fti.symbol_length + c) ≡ (place + r) * z.fti.symbol_length + c = omega (arith, apart, front) in
    let one : first + (place + r) ≡ first + place + r = omega arith in
    get_or-chunk (place * width) (count * width - place * width) bytes (r * z.fti.symbol_length + c) 0 inside
    ∙ ap (λ (p : ℕ). get_or bytes p 0) at
    ∙ are (place + r) c (omega (arith, lr, le)) lc
    ∙ ap (λ (j : ℕ). certified_byte z b j c) one

-- as many bytes as these are
pub length_behind : (count place width most : ℕ) (bytes : List ℕ) → length bytes ≡ most * width → count ≤ most → place ≤ count
    → length (take (count * width - place * width) (drop (place * width) bytes)) ≡ (count - place) * width
length_behind count place width most bytes long le within =
    let split = rows_apart place (count - place) width in
    let back : place + (count - place) ≡ count = omega (arith, within) in
    let whole : (place + (count - place)) * width ≡ count * width = ap (λ (m : ℕ). m * width) back in
    let room = mul-le-mul_right width le in
    let rest = length-drop (place * width) bytes in
    length-take-le (count * width - place * width) (drop (place * width) bytes) (omega (arith, rest, long, room)) ∙ omega (arith, split, whole)

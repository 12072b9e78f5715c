-- The values at all 255 points that a matrix makes of a block's source symbols, and the certificate
-- that has their polynomials.
use Rattle.std.proofs.Common.{◌≡◌, ℕ, ◌+◌, ◌-◌, ◌*◌, ◌<◌, ◌≤◌, List, length, get_or, take, drop, arith, ap, subst, ◌∙◌, sym, inl, inr, get_or-take}
use Rattle.std.proofs.lemmas.Bool.{cases_lt}
use Rattle.std.proofs.lemmas.List.{ext_get_or}
use Rattle.std.proofs.lemmas.Simd.{get_or-chunk}
use Rattle.gf256.proofs.RowPlaces.{row_ends, rows_apart}
use Rattle.lists.specs.Bytes.{AreBytes}
use Rattle.gf256.specs.Arithmetic.{sum_of, product, point}
use Rattle.gf256.specs.Sums.{row_times}
use Rattle.poly.specs.Polynomial.{value}
use Rattle.evaluation.specs.Columns.{IsColumn}
use Rattle.partition.specs.Fti.{Fti, source_count, source_byte}
use Rattle.elim.specs.Grid.{Grid, entry, row_product}
use Rattle.certificate.specs.Certificate.{Certificate, unnamed, polynomial}
use Rattle.certificate.specs.CoefficientRows.{AreRowsOf}
use Rattle.cert.specs.Verdict.{GivesAt}
use Rattle.certificate.proofs.Polynomials.{length_polynomial, coefficient_at}
use Rattle.block_code.specs.Codes.{IsEncoder}
use Rattle.block_code.proofs.SourceRows.{row_of, length-row_of, get_or-row_of, bytes-row_of, product_at}
use Rattle.encoder.specs.AllValues.{IsExtended}

-- the columns behind the first k, as bytes
pub part_at : (columns : List ℕ) (k n j i : ℕ) → n ≡ k → k ≤ j → j < 255 → i < k
    → get_or (take (255 * n - n * n) (drop (n * n) columns)) ((j - k) * k + i) 0 ≡ get_or columns (j * k + i) 0
part_at columns k n j i e past lj li =
    let ends = row_ends (j - k) (255 - k) k (omega (arith, past, lj)) in
    let all : k + (255 - k) ≡ 255 = omega (arith, past, lj) in
    let back : k + (j - k) ≡ j = omega (arith, past) in
    let whole : (k + (255 - k)) * k ≡ 255 * k = ap (λ (v : ℕ). v * k) all in
    let here : (k + (j - k)) * k ≡ j * k = ap (λ (v : ℕ). v * k) back in
    let split = rows_apart k (255 - k) k in
    let apart = rows_apart k (j - k) k in
    let place : k * k + ((j - k) * k + i) ≡ j * k + i = omega (arith, here, apart) in
    subst (λ (v : ℕ). get_or (take (255 * v - v * v) (drop (v * v) columns)) ((j - k) * k + i) 0 ≡ get_or columns (j * k + i) 0) (sym e)
    (get_or-chunk (k * k) (255 * k - k * k) columns ((j - k) * k + i) 0 (omega (arith, ends, whole, split, li)) ∙ ap (λ (p : ℕ). get_or columns p 0) place)

module _ (f : Fti) (object : List ℕ) (b : ℕ) where
  -- rows that hold the source symbols, and behind them their products with the other columns
  pub extended : source_count f b ≤ 255 → (g : Grid ℕ) (rows : List ℕ) (c : ℕ) → IsEncoder (source_count f b) 255 g → AreBytes object
      → ((j : ℕ) → j < source_count f b → get_or rows (j * f.symbol_length + c) 0 ≡ source_byte f object b j c)
      → ((j : ℕ) → source_count f b ≤ j → j < 255
      → get_or rows (j * f.symbol_length + c) 0 ≡ row_times sum_of product 0 (λ i. source_byte f object b i c) (entry 0 g) (source_count f b) j)
      → IsExtended object f b rows c
  extended wide g rows c code bytes sources repairs =
      let k = source_count f b in
      let x : ℕ → ℕ = λ i. source_byte f object b i c in
      let source = row_of x k in
      let word = row_product sum_of product 0 source g in
      let small = bytes-row_of x k (λ i. bytes _) in
      let w = code.encodes.word source (length-row_of x k) small in
      let begins : (i : ℕ) → i < k → get_or word i 0 ≡ x i = λ i li.
      sym (get_or-take k word i 0 li) ∙ ap (λ (l : List ℕ). get_or l i 0) (code.encodes.begins source (length-row_of x k) small) ∙ get_or-row_of x k i li in
      record {
        polynomial = w.polynomial.0;
        form = w.polynomial.1;
        values = λ j lj. elim (cases_lt j k) [
          | inl lt ↦ sources j lt ∙ sym (begins j lt) ∙ sym (w.polynomial.2 j lj)
          | inr past ↦ repairs j past lj ∙ sym (product_at x k g j code.rows (rw code.cols lj)) ∙ sym (w.polynomial.2 j lj)
        ];
        sources = λ i li. w.polynomial.2 i (omega (arith, li, wide)) ∙ begins i li;
      }

  -- a certificate with the polynomial that such a column has
  pub gives_from_column : (rows coefficients p : List ℕ) (c : ℕ) → IsColumn rows (source_count f b) f.symbol_length c p
      → AreRowsOf (unnamed f coefficients) b rows → c < f.symbol_length
      → ((i : ℕ) → i < source_count f b → value p (point i) ≡ source_byte f object b i c)
      → (i : ℕ) → i < source_count f b → GivesAt object (unnamed f coefficients) b c i
  gives_from_column rows coefficients p c column are lc sources i li =
      let z : Certificate = unnamed f coefficients in
      let long : length (polynomial z b c) ≡ source_count f b = length_polynomial z b c in
      let is : polynomial z b c ≡ p =
      ext_get_or 0 (polynomial z b c) p (long ∙ sym column.count)
      (λ n lt. let ln : n < source_count f b = rw long at lt in
      coefficient_at z b c n ln ∙ sym (are n c ln lc) ∙ sym (column.bytes n ln)) in
      ap (λ (q : List ℕ). value q (point i)) is ∙ sources i li

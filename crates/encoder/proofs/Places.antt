-- The places of coefficients: block after block, in a block row after row, as the bytes of its
-- source symbols stand in an object.
use Rattle.std.proofs.Common.{◌≡◌, ℕ, suc, ◌+◌, ◌*◌, ◌<◌, ◌≤◌, List, length, get_or, arith, ap, ◌∙◌, sym}
use Rattle.std.proofs.lemmas.List.{ext_get_or}
use Rattle.std.proofs.Math.Nat.{mul-le-mul_right}
use Rattle.lists.specs.Bytes.{AreBytes}
use Rattle.gf256.specs.Arithmetic.{sum_of, product, point}
use Rattle.poly.specs.Polynomial.{value}
use Rattle.partition.specs.Fti.{Fti, IsValidFti, source_count, start_of, source_place, source_byte}
use Rattle.partition.proofs.Laws.{start_step, rising_to}
use Rattle.elim.specs.Grid.{Grid, entry, row_product}
use Rattle.gf256.specs.Sums.{row_times}
use Rattle.elim.proofs.RowProducts.{length-row_product}
use Rattle.certificate.specs.Certificate.{Certificate, unnamed, polynomial}
use Rattle.cert.specs.Verdict.{GivesAt}
use Rattle.certificate.proofs.Polynomials.{length_polynomial, coefficient_at}
use Rattle.block_code.specs.Codes.{IsInterpolator}
use Rattle.block_code.proofs.SourceRows.{row_of, length-row_of, get_or-row_of, bytes-row_of, product_at}

module _ (f : Fti) where
  -- a block's coefficients stand before those of a later one
  pub place_before : IsValidFti f → (x b i c : ℕ) → x < b → i < source_count f x → c < f.symbol_length → source_place f x i c < start_of f b * f.symbol_length
  place_before valid x b i c lt li lc =
      let s = start_step f valid x in
      let r = rising_to f valid (suc x) b (omega arith) in
      let m : (start_of f x + i + 1) * f.symbol_length ≤ start_of f b * f.symbol_length = mul-le-mul_right f.symbol_length (let l : start_of f x + i + 1 ≤ start_of f b = omega (arith, s, r, li) in l) in
      omega (arith, m, lc)

  -- a polynomial of a block is known from the places of its coefficients
  pub same_polynomial_at : IsValidFti f → (old new : List ℕ) (b : ℕ) → ((p : ℕ) → p < start_of f b * f.symbol_length → get_or new p 0 ≡ get_or old p 0)
      → (x y : ℕ) → x < b → y < f.symbol_length → polynomial (unnamed f new) x y ≡ polynomial (unnamed f old) x y
  same_polynomial_at valid old new b same x y lx ly =
      let before : Certificate = unnamed f old in
      let now : Certificate = unnamed f new in
      ext_get_or 0 (polynomial (unnamed f new) x y) (polynomial (unnamed f old) x y) (length_polynomial now x y ∙ sym (length_polynomial before x y))
      (λ i lt.
      let li : i < source_count f x = rw (length_polynomial now x y) at lt in
      coefficient_at now x y i li ∙ same (source_place f x i y) (place_before valid x b i y lx li ly) ∙ sym (coefficient_at before x y i li))

  -- the coefficients at their places are the polynomial through the object's source symbols
  pub gives_from_places : (object coefficients : List ℕ) (b : ℕ) (g : Grid ℕ) → AreBytes object → IsInterpolator (source_count f b) g
      → ((y n : ℕ) → y < f.symbol_length → n < source_count f b
      → get_or coefficients (source_place f b n y) 0 ≡ row_times sum_of product 0 (λ i. source_byte f object b i y) (entry 0 g) (source_count f b) n)
      → (y i : ℕ) → y < f.symbol_length → i < source_count f b → GivesAt object (unnamed f coefficients) b y i
  gives_from_places object coefficients b g bytes made at y i ly li =
      let k = source_count f b in
      let z : Certificate = unnamed f coefficients in
      let x : ℕ → ℕ = λ i. source_byte f object b i y in
      let long : length (polynomial z b y) ≡ k = length_polynomial z b y in
      let long2 : length (row_product sum_of product 0 (row_of x k) g) ≡ k = length-row_product sum_of product 0 (row_of x k) g ∙ made.cols in
      let is : polynomial z b y ≡ row_product sum_of product 0 (row_of x k) g =
      ext_get_or 0 (polynomial z b y) (row_product sum_of product 0 (row_of x k) g) (long ∙ sym long2)
      (λ n lt.
      let ln : n < k = rw long at lt in
      let inside : n < g.cols = rw made.cols ln in
      coefficient_at z b y n ln ∙ at y n ly ln ∙ sym (product_at x k g n made.rows inside)) in
      ap (λ (p : List ℕ). value p (point i)) is
      ∙ made.interpolates.values (row_of x k) (length-row_of x k) (bytes-row_of x k (λ j. bytes _)) i li
      ∙ get_or-row_of x k i li

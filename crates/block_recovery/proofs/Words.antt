-- A row of source bytes, the polynomial through it, and the word that the generator makes.
use Rattle.std.proofs.Common.{◌≡◌, ℕ, ◌<◌, ◌≤◌, List, length, get_or, take, arith, ap, ◌∙◌, sym, get_or-take, length-take, refl}
use Rattle.lists.specs.Bytes.{IsByte}
use Rattle.gf256.specs.Arithmetic.{sum_of, product, point}
use Rattle.gf256.specs.ByteField.{byte_field, point_byte}
use Rattle.poly.specs.Polynomial.{value, IsPolynomial}
use Rattle.poly.proofs.Bytes.{bytes_by_recursion, same_polynomial}
use Rattle.poly.proofs.Roots.{value_element}
use Rattle.elim.specs.Grid.{Grid, entry, row_product}
use Rattle.gf256.specs.Sums.{row_times}
use Rattle.elim.specs.Matrices.{AreElements}
use Rattle.elim.specs.Generator.{Encodes}
use Rattle.elim.proofs.RowProducts.{length-row_product}
use Rattle.lists.specs.Below.{below}
use Rattle.lists.proofs.Below.{all_below, length_below}
use Rattle.reception.proofs.Different.{different_below}
use Rattle.block_code.proofs.SourceRows.{row_of, length-row_of, get_or-row_of, bytes-row_of, product_at}

-- the polynomial through a row at the first points: its values are the row's word
pub record RowPolynomial (g : Grid ℕ) (x : ℕ → ℕ) : Type 0 where
  pub polynomial : List ℕ
  pub form : IsPolynomial g.rows polynomial
  pub source : (i : ℕ) → i < g.rows → value polynomial (point i) ≡ x i
  pub all : (j : ℕ) → j < g.cols → value polynomial (point j) ≡ row_times sum_of product 0 x (entry 0 g) g.rows j

-- a polynomial's values are bytes
pub values_bytes : (k : ℕ) (p : List ℕ) → IsPolynomial k p → AreElements IsByte (λ i. value p (point i))
values_bytes k p form i = value_element IsByte sum_of product 0 1 byte_field p (point i) (bytes_by_recursion p form.bytes) (point_byte i)

module _ (g : Grid ℕ) (code : Encodes g.rows g.cols g) where
  module _ (x : ℕ → ℕ) (ex : AreElements IsByte x) where
    abbrev row : List ℕ
    row = row_of x g.rows

    abbrev word : List ℕ
    word = row_product sum_of product 0 row g

    front : take g.rows word ≡ row
    front = code.begins row (length-row_of x g.rows) (bytes-row_of x g.rows ex)

    pub wide : g.rows ≤ g.cols
    wide =
        let long : length word ≡ g.cols = length-row_product sum_of product 0 row g in
        let few : length (take g.rows word) ≤ length word = simp length-take (omega arith) in
        omega (arith, ap length front, length-row_of x g.rows, long, few)

    pub through : RowPolynomial g x
    through =
        let w = code.word row (length-row_of x g.rows) (bytes-row_of x g.rows ex) in
        record {
          polynomial = w.polynomial.0;
          form = w.polynomial.1;
          source = λ i li.
              w.polynomial.2 i (omega (arith, li, wide)) ∙ sym (get_or-take g.rows word i 0 li) ∙ ap (λ (l : List ℕ). get_or l i 0) front ∙ get_or-row_of x g.rows i li;
          all = λ j lj. w.polynomial.2 j lj ∙ product_at x g.rows g j refl lj;
        }

  -- the word of a polynomial's values at the first points is its values
  pub word_of_values : g.rows ≤ 255 → (p : List ℕ) → IsPolynomial g.rows p → (j : ℕ) → j < g.cols
      → row_times sum_of product 0 (λ i. value p (point i)) (entry 0 g) g.rows j ≡ value p (point j)
  word_of_values small p form j lj =
      let w = through (λ i. value p (point i)) (values_bytes g.rows p form) in
      let same : w.polynomial ≡ p =
      same_polynomial g.rows w.polynomial p (below g.rows) w.form form (length_below g.rows)
      (all_below (λ i. i < 255) g.rows (λ i li. omega (arith, li, small))) (different_below g.rows)
      (all_below (λ i. value w.polynomial (point i) ≡ value p (point i)) g.rows w.source) in
      sym (w.all j lj) ∙ ap (λ (q : List ℕ). value q (point j)) same

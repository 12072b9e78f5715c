-- The inverse of V of k points, times V of n points, is the generator matrix, and each row times it
-- is a word.
use Rattle.std.proofs.Common.{◌≡◌, ℕ, ◌<◌, ◌≤◌, List, length, get_or, take, arith, ap, ◌∙◌, sym, inl, inr}
use Rattle.std.proofs.lemmas.Bool.{cases_lt}
use Rattle.std.proofs.lemmas.List.{ext_get_or, get_or_past, get_or-take, length-take-le}
use Rattle.lists.specs.Bytes.{IsByte, AreBytes}
use Rattle.gf256.specs.Arithmetic.{sum_of, product, point}
use Rattle.gf256.specs.ByteField.{byte_field, point_byte}
use Rattle.poly.specs.Polynomial.{IsWord, value}
use Rattle.poly.proofs.Bytes.{bytes_from_recursion}
use Rattle.gf256.specs.Sums.{row_times}
use Rattle.elim.specs.Matrices.{AreElements}
use Rattle.elim.specs.Grid.{Grid, entry, row_product, HasElements, HasShape}
use Rattle.elim.specs.Generator.{power_entry, IsGenerator, IsSystematic, Encodes}
use Rattle.elim.proofs.RowTimes.{dot_element}
use Rattle.elim.proofs.Basis.{power_byte}
use Rattle.elim.proofs.Interpolation.{listed, length-listed, listed_elements}
use Rattle.elim.proofs.Systematic.{generates, front_is, begins_with, value_at}
use Rattle.elim.proofs.Entries.{elements_by_row}
use Rattle.elim.proofs.RowProducts.{length-row_product, get_or-row_product}
use Rattle.elim.proofs.CodePoints.{power_of_point}
use Rattle.elim.specs.Squares.{AreInverseSquares}

module _ (k n : ℕ) (le : k ≤ n) (w : ℕ → ℕ → ℕ) (ew : (i : ℕ) → AreElements IsByte (w i)) (both : AreInverseSquares sum_of product 0 1 k power_entry w)
    (g : Grid ℕ) (made_elements : HasElements IsByte 0 g) (rows_are : g.rows ≡ k) (cols_are : g.cols ≡ n)
    (is : (i j : ℕ) → i < k → j < n → entry 0 g i j ≡ row_times sum_of product 0 (w i) power_entry k j) where
  generator_is : IsGenerator k n g
  generator_is = record {
    rows = rows_are;
    cols = cols_are;
    equation = generates IsByte sum_of product 0 1 byte_field k n le power_entry w (entry 0 g) power_byte ew both is;
  }

  systematic_is : IsSystematic k g
  systematic_is = record { front = front_is IsByte sum_of product 0 1 byte_field k n le power_entry w (entry 0 g) power_byte ew both is }

  at_place : (source : List ℕ) (j : ℕ) → j < n → get_or (row_product sum_of product 0 source g) j 0 ≡ row_times sum_of product 0 (λ i. get_or source i 0) (entry 0 g) k j
  at_place source j lj =
      let inside : j < g.cols = rw cols_are lj in
      get_or-row_product sum_of product 0 source g j inside ∙ ap (λ (r : ℕ). row_times sum_of product 0 (λ i. get_or source i 0) (entry 0 g) r j) rows_are

  coefficients : List ℕ → List ℕ
  coefficients source = listed (row_times sum_of product 0 (λ i. get_or source i 0) w k) k

  coefficient_bytes : (source : List ℕ) → AreBytes source → AreElements IsByte (row_times sum_of product 0 (λ i. get_or source i 0) w k)
  coefficient_bytes source bytes i = dot_element IsByte sum_of product 0 1 byte_field (λ m. get_or source m 0) (λ m. w m i) k bytes (λ m. ew m i)

  value_is_place : (source : List ℕ) (j : ℕ) → AreBytes source → j < n → value (coefficients source) (point j) ≡ get_or (row_product sum_of product 0 source g) j 0
  unfolding coefficients
  value_is_place source j bytes lj =
      sym (at_place source j lj
      ∙ value_at IsByte sum_of product 0 1 byte_field k n le power_entry w (entry 0 g) power_byte ew both is (λ i. get_or source i 0) j (point j) bytes lj (point_byte j)
      (λ i li. sym (power_of_point i j)))

  word_is : (source : List ℕ) → AreBytes source → IsWord k n (row_product sum_of product 0 source g)
  unfolding coefficients
  word_is source bytes = record {
    count = length-row_product sum_of product 0 source g ∙ cols_are;
    bytes = λ i. elim (cases_lt i n) [
      | inl lt ↦ rw (at_place source i lt) (dot_element IsByte sum_of product 0 1 byte_field (λ m. get_or source m 0) (λ m. entry 0 g m i) k bytes (λ m. elements_by_row IsByte 0 g made_elements m i))
      | inr past ↦ rw (get_or_past (row_product sum_of product 0 source g) i 0 (omega (arith, length-row_product sum_of product 0 source g, cols_are))) (omega arith)
    ];
    polynomial = (
      coefficients source,
      record { count = length-listed _ k; bytes = bytes_from_recursion _ (listed_elements IsByte _ k (coefficient_bytes source bytes)) },
      λ j lj. value_is_place source j bytes lj,
    );
  }

  encodes_is : Encodes k n g
  encodes_is = record {
    word = λ source len bytes. word_is source bytes;
    begins = λ source len bytes.
        let whole : k ≤ length (row_product sum_of product 0 source g) = omega (arith, length-row_product sum_of product 0 source g, cols_are) in
        let cut = length-take-le k (row_product sum_of product 0 source g) whole in
        ext_get_or 0 (take k (row_product sum_of product 0 source g)) source (cut ∙ sym len)
        (λ j lt.
        let lj : j < k = omega arith in
        let inside : j < n = omega arith in
        get_or-take k (row_product sum_of product 0 source g) j 0 lj ∙ at_place source j inside
        ∙ begins_with IsByte sum_of product 0 1 byte_field k n le power_entry w (entry 0 g) power_byte ew both is (λ i. get_or source i 0) j bytes lj);
  }

-- what holds of the generator matrix
pub record GeneratesAll (k n : ℕ) (g : Grid ℕ) : Type 0 where
  pub generator : IsGenerator k n g
  pub systematic : IsSystematic k g
  pub encodes : Encodes k n g

-- rows that are an inverse of V of k points, times V of n points, are the generator matrix
pub made_is : (k n : ℕ) → k ≤ n → (w : ℕ → ℕ → ℕ) → ((i : ℕ) → AreElements IsByte (w i)) → AreInverseSquares sum_of product 0 1 k power_entry w
    → (made : Grid ℕ) → HasShape k n made → HasElements IsByte 0 made
    → ((i j : ℕ) → i < k → j < n → entry 0 made i j ≡ row_times sum_of product 0 (w i) power_entry k j) → GeneratesAll k n made
made_is k n le w ew both made shape elements is = record {
  generator = generator_is k n le w ew both made elements shape.rows shape.cols is;
  systematic = systematic_is k n le w ew both made elements shape.rows shape.cols is;
  encodes = encodes_is k n le w ew both made elements shape.rows shape.cols is;
}

-- A row times the inverse of V of the first points is the coefficients of the polynomial through
-- it.
use Rattle.std.proofs.Common.{◌≡◌, ℕ, zero, suc, ◌<◌, List, length, get_or, arith, ap, ◌∙◌, sym, refl}
use Rattle.std.proofs.lemmas.List.{ext_get_or}
use Rattle.lists.specs.Bytes.{IsByte, AreBytes}
use Rattle.gf256.specs.Arithmetic.{sum_of, product, point}
use Rattle.gf256.specs.ByteField.{byte_field, point_byte}
use Rattle.poly.specs.Polynomial.{value, power_over}
use Rattle.gf256.specs.Sums.{row_times}
use Rattle.elim.specs.Matrices.{identity_entry, AreElements}
use Rattle.elim.specs.Grid.{Grid, entry, row_product, HasElements, HasShape}
use Rattle.elim.specs.Generator.{power_entry, Interpolates}
use Rattle.elim.proofs.CodePoints.{power_of_point}
use Rattle.elim.proofs.Basis.{power_byte, AreUnits}
use Rattle.elim.proofs.RowTimes.{unit_swapped, dot_element, dot_same, dot_picks, row_times_twice}
use Rattle.elim.proofs.Interpolation.{listed, length-listed, value_is}
use Rattle.elim.proofs.Entries.{elements_by_row}
use Rattle.elim.proofs.RowProducts.{length-row_product, get_or-row_product}

pub get_or-listed : (x : ℕ → ℕ) (k i : ℕ) → i < k → get_or (listed x k) i 0 ≡ x i
get_or-listed x zero i lt = absurd (omega arith)
get_or-listed x (suc k) zero lt = refl
get_or-listed x (suc k) (suc i) lt = get_or-listed (λ n. x (suc n)) k i (omega arith)

module _ (k : ℕ) (inverse : Grid ℕ) (inverse_elements : HasElements IsByte 0 inverse) (units : AreUnits k k (entry 0 inverse)) (rows : inverse.rows ≡ k) (cols : inverse.cols ≡ k) where
  ei : (i : ℕ) → AreElements IsByte (entry 0 inverse i)
  ei = elements_by_row IsByte 0 inverse inverse_elements

  row : List ℕ → ℕ → ℕ
  row source = row_times sum_of product 0 (λ i. get_or source i 0) (entry 0 inverse) k

  coefficients_are : (source : List ℕ) → row_product sum_of product 0 source inverse ≡ listed (row source) k
  unfolding row
  coefficients_are source =
      let long = length-row_product sum_of product 0 source inverse in
      let same : length (row_product sum_of product 0 source inverse) ≡ length (listed (row source) k) = long ∙ cols ∙ sym (length-listed (row source) k) in
      ext_get_or 0 (row_product sum_of product 0 source inverse) (listed (row source) k) same
      (λ j lt.
      let lj : j < inverse.cols = omega arith in
      let lk : j < k = omega arith in
      get_or-row_product sum_of product 0 source inverse j lj
      ∙ ap (λ (r : ℕ). row_times sum_of product 0 (λ i. get_or source i 0) (entry 0 inverse) r j) rows
      ∙ sym (get_or-listed (row source) k j lk))

  value_at_point : (source : List ℕ) → AreBytes source → (i : ℕ) → i < k → value (row_product sum_of product 0 source inverse) (point i) ≡ get_or source i 0
  unfolding row
  value_at_point source bytes i li =
      let s : ℕ → ℕ = λ m. get_or source m 0 in
      ap (λ (p : List ℕ). value p (point i)) (coefficients_are source)
      ∙ sym (value_is IsByte sum_of product 0 1 byte_field (row source) k (point i) (λ m. dot_element IsByte sum_of product 0 1 byte_field s (λ a. entry 0 inverse a m) k bytes (λ a. ei a m)) (point_byte i))
      ∙ dot_same IsByte sum_of product 0 1 byte_field (row source) (power_over product 1 (point i)) (λ m. power_entry m i) k (λ m lm. power_of_point m i)
      ∙ row_times_twice IsByte sum_of product 0 1 byte_field s (entry 0 inverse) power_entry k k i bytes ei power_byte
      ∙ dot_same IsByte sum_of product 0 1 byte_field s (λ a. row_times sum_of product 0 (entry 0 inverse a) power_entry k i) (identity_entry 0 1 i) k
      (λ a la. units a i la li ∙ unit_swapped IsByte sum_of product 0 1 byte_field a i)
      ∙ dot_picks IsByte sum_of product 0 1 byte_field s k i bytes li

-- rows that are one at their own point and zero at the others interpolate
pub interpolates : (k : ℕ) (inverse : Grid ℕ) → HasShape k k inverse → HasElements IsByte 0 inverse → AreUnits k k (entry 0 inverse) → Interpolates k inverse
interpolates k inverse shape elements units = record { values = λ source len bytes i li. value_at_point k inverse elements units shape.rows shape.cols source bytes i li }

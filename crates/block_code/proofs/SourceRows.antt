-- A row of source bytes as a list, and a place of it times a matrix.
use Rattle.std.proofs.Common.{◌≡◌, ℕ, ◌+◌, ◌<◌, List, length, get_or, map, arith, ap, ◌∙◌, inl, inr, Fits, w8}
use Rattle.std.specs.List.{range_with_len}
use Rattle.std.proofs.lemmas.Bool.{cases_lt}
use Rattle.std.proofs.lemmas.List.{get_or-map, get_or_past, length-map}
use Rattle.std.proofs.lemmas.List.FromFn.{get_or-range_with_len, length-range_with_len}
use Rattle.lists.specs.Bytes.{AreBytes, IsByte}
use Rattle.gf256.specs.Arithmetic.{sum_of, product}
use Rattle.gf256.specs.ByteField.{byte_field}
use Rattle.gf256.specs.Sums.{row_times}
use Rattle.elim.specs.Grid.{Grid, entry, row_product}
use Rattle.elim.proofs.Sums.{sum_same}
use Rattle.elim.proofs.RowProducts.{get_or-row_product}

-- the members of a list of bytes
pub bytes_fit : (xs : List ℕ) → ((i : ℕ) → Fits w8 (get_or xs i 0)) → AreBytes xs
bytes_fit xs h i = omega (arith, h i)

-- the first k values of a function
abbrev pub row_of : (ℕ → ℕ) → ℕ → List ℕ
row_of x k = map x (range_with_len 0 k)

pub length-row_of : (x : ℕ → ℕ) (k : ℕ) → length (row_of x k) ≡ k
length-row_of x k = length-map (range_with_len 0 k) x ∙ length-range_with_len 0 k

pub get_or-row_of : (x : ℕ → ℕ) (k i : ℕ) → i < k → get_or (row_of x k) i 0 ≡ x i
get_or-row_of x k i lt =
    let inside : i < length (range_with_len 0 k) = omega (arith, length-range_with_len 0 k) in
    let place : get_or (range_with_len 0 k) i 0 ≡ i = get_or-range_with_len 0 k i 0 lt ∙ (let e : 0 + i ≡ i = omega arith in e) in
    get_or-map x (range_with_len 0 k) i 0 0 inside ∙ ap x place

pub bytes-row_of : (x : ℕ → ℕ) (k : ℕ) → ((i : ℕ) → x i < 256) → AreBytes (row_of x k)
bytes-row_of x k h i = elim (cases_lt i k) [
  | inl lt ↦ rw (get_or-row_of x k i lt) (h i)
  | inr past ↦ rw (get_or_past (row_of x k) i 0 (omega (arith, length-row_of x k))) (omega arith)
]

-- a place of a row times a matrix
pub product_at : (x : ℕ → ℕ) (k : ℕ) (g : Grid ℕ) (j : ℕ) → g.rows ≡ k → j < g.cols
    → get_or (row_product sum_of product 0 (row_of x k) g) j 0 ≡ row_times sum_of product 0 x (entry 0 g) k j
product_at x k g j rows lj =
    get_or-row_product sum_of product 0 (row_of x k) g j lj
    ∙ ap (λ (r : ℕ). row_times sum_of product 0 (λ i. get_or (row_of x k) i 0) (entry 0 g) r j) rows
    ∙ sum_same IsByte sum_of product 0 1 byte_field (λ i. product (get_or (row_of x k) i 0) (entry 0 g i j)) (λ i. product (x i) (entry 0 g i j)) k
    (λ i li. ap (λ (v : ℕ). product v (entry 0 g i j)) (get_or-row_of x k i li))

-- The columns of matrices as rows of bytes, and the sums of products that they make.
use Rattle.std.proofs.Common.{◌≡◌, ℕ, ◌+◌, ◌*◌, ◌<◌, List, Result, Ok, Err, get_or, ap, sym, ◌∙◌}
use Rattle.std.specs.Prelude.{IfOk}
use Rattle.gf256.specs.Arithmetic.{sum_of, product}
use Rattle.gf256.specs.ProductLaws.{product_comm}
use Rattle.gf256.specs.Sums.{row_times}
use Rattle.gf256.specs.ByteSums.{byte_sum}
use Rattle.gf256.proofs.SliceSums.{sum_same}
use Rattle.elim.specs.Grid.{Grid, entry}
use Rattle.block_code.specs.Columns.{AreColumns}

pub if_ok : {T E : Type 0} (r : Result T E) (P Q : T → Type 0) → ((v : T) → P v → Q v) → IfOk r P → IfOk r Q
if_ok (Ok v) P Q f h = f v h
if_ok (Err e) P Q f h = tt

-- a row of coefficients times bytes is the bytes as a row times the matrix
pub column_product : (g : Grid ℕ) (bytes : List ℕ) (x : ℕ → ℕ) (k j : ℕ) → ((i : ℕ) → get_or bytes i 0 < 256) → AreColumns g bytes → g.rows ≡ k → j < g.cols
    → ((i : ℕ) → x i < 256) → byte_sum k (λ i. product (get_or bytes (j * k + i) 0) (x i)) ≡ row_times sum_of product 0 x (entry 0 g) k j
column_product g bytes x k j fits columns rows lj small =
    sum_same k (λ i. product (get_or bytes (j * k + i) 0) (x i)) (λ i. product (x i) (entry 0 g i j)) (λ i li.
    let inside : i < g.rows = rw rows li in
    let place : j * k + i ≡ j * g.rows + i = ap (λ n. j * n + i) (sym rows) in
    product_comm (get_or bytes (j * k + i) 0) (x i) (fits (j * k + i)) (small i)
    ∙ ap (product (x i)) (ap (λ p. get_or bytes p 0) place ∙ columns.entries i j inside lj))

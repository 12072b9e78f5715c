-- Rows of bytes that stand one behind the other.
use Rattle.std.proofs.Common.{◌≡◌, ℕ, suc, ◌+◌, ◌-◌, ◌*◌, ◌<◌, ◌≤◌, List, ◌++◌, length, get_or, take, drop, arith, ap, ◌∙◌, get_or-take}
use Rattle.std.proofs.Math.Seq.{take-append_seam}
use Rattle.std.proofs.lemmas.List.{get_or-drop}
use Rattle.std.specs.Int.Bits.{xor_assoc}
use Rattle.gf256.specs.Arithmetic.{sum_of, product}
use Rattle.gf256.specs.ProductLaws.{product_comm}
use Rattle.gf256.specs.Sums.{row_times}

-- two products of equal factors
pub products : (a b x y : ℕ) → a ≡ x → b ≡ y → a * b ≡ x * y
products a b x y e g = ap (λ (v : ℕ). v * b) e ∙ ap (λ (v : ℕ). x * v) g

-- the front of two lists put together
pub take_front : (n : ℕ) (xs ys : List ℕ) → n ≡ length xs → take n (xs ++ ys) ≡ xs
take_front n xs ys e = rw e (take-append_seam xs ys)

-- a byte of a row
pub row_at : (rows : List ℕ) (size i c : ℕ) → c < size → get_or (take ((i + 1) * size - i * size) (drop (i * size) rows)) c 0 ≡ get_or rows (i * size + c) 0
row_at rows size i c lt =
    let inside : c < (i + 1) * size - i * size = omega (arith, lt) in
    get_or-take ((i + 1) * size - i * size) (drop (i * size) rows) c 0 inside ∙ get_or-drop (i * size) rows c 0

-- a row stands before each later one
pub row_before : (size m i : ℕ) → m < i → m * size + size ≤ i * size
row_before size m i lt =
    let e : i ≡ m + 1 + (i - m - 1) = omega (arith, lt) in
    rw e (omega arith)

-- one row more, added to what was there
pub added : (x : ℕ → ℕ) (m : ℕ → ℕ → ℕ) (i j new old start scale byte : ℕ) → new ≡ sum_of old (product scale byte)
    → old ≡ sum_of start (row_times sum_of product 0 x m i j) → scale ≡ m i j → byte ≡ x i → scale < 256 → x i < 256
    → new ≡ sum_of start (row_times sum_of product 0 x m (i + 1) j)
added x m i j new old start scale byte is so_far entry here small byte_small =
    let s : i + 1 ≡ suc i = omega arith in
    let e1 : product scale byte ≡ product (x i) (m i j) =
    ap (product scale) here ∙ product_comm scale (x i) small byte_small ∙ ap (product (x i)) entry in
    rw s (is ∙ ap (sum_of old) e1 ∙ ap (λ (t : ℕ). sum_of t (product (x i) (m i j))) so_far
    ∙ xor_assoc start (row_times sum_of product 0 x m i j) (product (x i) (m i j)))

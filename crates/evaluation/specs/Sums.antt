-- Values as sums of powers of alpha times coefficients.
use Rattle.std.specs.Prelude.{◌≡◌, ◌<◌, ◌+◌, ◌*◌, ℕ, List, slice_index}
use Rattle.gf256.specs.Arithmetic.{product, alpha_to}
use Rattle.gf256.specs.ByteSums.{byte_sum}

-- the coefficients in a column
abbrev pub coefficient : List ℕ → ℕ → ℕ → ℕ → ℕ
coefficient rows width c i = slice_index rows (i * width + c)

-- the value at the power e of alpha of the polynomial of column c
abbrev pub sum_at : List ℕ → ℕ → ℕ → ℕ → ℕ → ℕ
sum_at rows k width c e = byte_sum k (λ i. product (alpha_to (i * e)) (coefficient rows width c i))

-- row j has the values at the power first + j * step of alpha
abbrev pub AreSums : List ℕ → ℕ → ℕ → ℕ → ℕ → ℕ → List ℕ → Type 0
AreSums coefficients k width first step n symbols =
    (j c : ℕ) → j < n → c < width
    → slice_index symbols (j * width + c) ≡ sum_at coefficients k width c (first + j * step)

-- row j has the first k powers of that power
abbrev pub ArePowers : List ℕ → ℕ → ℕ → ℕ → ℕ → Type 0
ArePowers matrix n k first step =
    (j i : ℕ) → j < n → i < k → slice_index matrix (j * k + i) ≡ alpha_to (i * (first + j * step))

-- Products with the halves of bytes.
use Rattle.std.specs.Prelude.{◌≡◌, ◌<◌, ◌+◌, ◌-◌, ◌*◌, ℕ, List, cond, slice_index}
use lib.Dec.{ltb}
use Rattle.gf256.specs.Arithmetic.{product}

-- the low halves of bytes, and then the high ones
abbrev pub half : ℕ → ℕ
half t = cond (ltb t 16) t (16 * (t - 16))

-- the products of each of the first n elements with the halves of bytes
abbrev pub AreMultiples : List ℕ → ℕ → Type 0
AreMultiples bytes n =
    (c t : ℕ) → c < n → t < 32 → slice_index bytes (c * 32 + t) ≡ product c (half t)

-- The values of polynomials at all elements, by sums of rows: an additive Fourier transform (D.
-- Cantor; S. Gao and T. Mateer). Where row i of a matrix has coefficient i of a polynomial for each
-- column, it ends with the values at element i in row i: a polynomial f(x) is taken as g(x^2 + x) +
-- x h(x^2 + x), and x^2 + x is the same for an element and for that plus one.
use Rattle.std.specs.Prelude.{◌≡◌, ℕ, zero, suc, ◌<◌, ◌+◌, ◌-◌, ◌*◌, ◌/◌, ◌%◌, ◌^◌, ◌==◌, List, []}
use Rattle.std.specs.Prelude.{◌∷◌, length, cond, slice_index, slice_index_or, slice_set}
use Rattle.std.specs.Simd.Lanes.{zip2}
use Rattle.gf256.specs.Arithmetic.{sum_of, product}
use Rattle.gf256.specs.ByteSums.{byte_sum}
use Rattle.gf256.specs.Rows.{plus_scaled}
use Rattle.gf256.specs.Slices.{lane, below}
use Rattle.evaluation.specs.Sums.{coefficient}

-- the sum of those of these elements for which a bit of i is 1, the lowest bit for the first of
-- them
unfoldable pub chosen : List ℕ → ℕ → ℕ
chosen [] i = 0
chosen (b ∷ bs) i = sum_of (cond (i % 2 == 1) b 0) (chosen bs (i / 2))

-- element i: each of the basis but the first, squared and added to itself, is the one before it
unfoldable pub element : ℕ → ℕ
element i = chosen (1 ∷ 214 ∷ 152 ∷ 146 ∷ 86 ∷ 200 ∷ 88 ∷ 230 ∷ []) i

abbrev pub row : List (List ℕ) → ℕ → List ℕ
row w p = slice_index_or w p []

-- row q added to row p
unfoldable pub row_added : ℕ → ℕ → List (List ℕ) → List (List ℕ)
row_added p q w = slice_set w p (zip2 sum_of (row w p) (row w q))

-- c times row q added to row p
unfoldable pub scaled_added : ℕ → ℕ → ℕ → List (List ℕ) → List (List ℕ)
scaled_added c p q w = slice_set w p (plus_scaled c (row w p) (row w q))

-- n rows from q on added to those from p on
unfoldable pub rows_added : ℕ → ℕ → ℕ → List (List ℕ) → List (List ℕ)
rows_added zero p q w = w
rows_added (suc n) p q w = row_added (p + n) (q + n) (rows_added n p q w)

-- c times row q added to row p, and that to row q
unfoldable pub butterfly : ℕ → ℕ → ℕ → List (List ℕ) → List (List ℕ)
butterfly c p q w = row_added q p (scaled_added c p q w)

-- the butterfly of rows p + i and q + i, for each i below n
unfoldable pub butterflies : ℕ → ℕ → ℕ → ℕ → List (List ℕ) → List (List ℕ)
butterflies zero c p q w = w
butterflies (suc n) c p q w = butterfly c (p + n) (q + n) (butterflies n c p q w)

-- in 4 q rows: x^(2 q) is (x^2 + x)^q + x^q, where q is a power of two
unfoldable pub group_expanded : ℕ → ℕ → List (List ℕ) → List (List ℕ)
group_expanded q from w =
    rows_added q (from + q) (from + 2 * q) (rows_added q (from + 2 * q) (from + 3 * q) w)

-- in n groups of 4 q rows: x^(2 q) is (x^2 + x)^q + x^q, where q is a power of two
unfoldable pub groups_expanded : ℕ → ℕ → List (List ℕ) → List (List ℕ)
groups_expanded zero q w = w
groups_expanded (suc n) q w = group_expanded q (n * (4 * q)) (groups_expanded n q w)

-- 2^b rows by powers of x^2 + x: in one group, in two, and so on
unfoldable pub expanded : ℕ → ℕ → List (List ℕ) → List (List ℕ)
expanded b zero w = w
expanded b (suc l) w = groups_expanded (2 ^ l) (2 ^ (b - 2 - l)) (expanded b l w)

-- 2^b rows by powers of x^2 + x, then those of the polynomials g and h of each, and so on
unfoldable pub all_expanded : ℕ → ℕ → List (List ℕ) → List (List ℕ)
all_expanded b zero w = w
all_expanded b (suc a) w = expanded b (b - 1 - a) (all_expanded b a w)

-- the values at elements 2 j and 2 j + 1 from those of g and h at element j, for n of them beside
-- the first; s polynomials side by side
unfoldable pub joined : ℕ → ℕ → List (List ℕ) → List (List ℕ)
joined zero s w = rows_added s s 0 w
joined (suc n) s w =
    butterflies s (element (2 * (n + 1))) ((n + 1) * (2 * s)) ((n + 1) * (2 * s) + s) (joined n s w)

unfoldable pub all_joined : ℕ → List (List ℕ) → List (List ℕ)
all_joined zero w = w
all_joined (suc a) w = joined (2 ^ a - 1) (2 ^ (7 - a)) (all_joined a w)

-- from 2^b coefficients to the values
abbrev pub transformed : ℕ → List (List ℕ) → List (List ℕ)
transformed b w = all_joined 8 (all_expanded b (b - 1) w)

-- the row in which the value at point j stands
unfoldable pub places : List ℕ
places =
    1 ∷ 104 ∷ 92 ∷ 100 ∷ 114 ∷ 240 ∷ 86 ∷ 18 ∷ 75 ∷ 142 ∷ 136 ∷ 208 ∷ 125 ∷ 39 ∷ 27 ∷ 196 ∷ 110 ∷ 4
    ∷ 201 ∷ 40 ∷ 204 ∷ 137 ∷ 184 ∷ 33 ∷ 67 ∷ 105 ∷ 52 ∷ 56 ∷ 22 ∷ 130 ∷ 166 ∷ 68 ∷ 89 ∷ 197 ∷ 6 ∷ 88
    ∷ 173 ∷ 90 ∷ 60 ∷ 223 ∷ 170 ∷ 106 ∷ 205 ∷ 225 ∷ 228 ∷ 69 ∷ 49 ∷ 153 ∷ 98 ∷ 42 ∷ 93 ∷ 12 ∷ 46
    ∷ 148 ∷ 36 ∷ 226 ∷ 29 ∷ 156 ∷ 195 ∷ 94 ∷ 245 ∷ 247 ∷ 102 ∷ 227 ∷ 117 ∷ 192 ∷ 167 ∷ 44 ∷ 5 ∷ 161
    ∷ 116 ∷ 168 ∷ 251 ∷ 72 ∷ 119 ∷ 81 ∷ 34 ∷ 186 ∷ 176 ∷ 198 ∷ 255 ∷ 129 ∷ 95 ∷ 157 ∷ 171 ∷ 2 ∷ 145
    ∷ 133 ∷ 150 ∷ 181 ∷ 103 ∷ 139 ∷ 41 ∷ 164 ∷ 213 ∷ 220 ∷ 83 ∷ 179 ∷ 63 ∷ 38 ∷ 115 ∷ 152 ∷ 10 ∷ 118
    ∷ 57 ∷ 126 ∷ 222 ∷ 194 ∷ 54 ∷ 169 ∷ 147 ∷ 20 ∷ 19 ∷ 35 ∷ 210 ∷ 236 ∷ 162 ∷ 141 ∷ 113 ∷ 9 ∷ 143
    ∷ 224 ∷ 140 ∷ 25 ∷ 85 ∷ 235 ∷ 146 ∷ 124 ∷ 79 ∷ 71 ∷ 160 ∷ 28 ∷ 244 ∷ 159 ∷ 58 ∷ 135 ∷ 7 ∷ 48
    ∷ 241 ∷ 62 ∷ 78 ∷ 47 ∷ 252 ∷ 120 ∷ 134 ∷ 111 ∷ 108 ∷ 149 ∷ 76 ∷ 190 ∷ 121 ∷ 238 ∷ 51 ∷ 8 ∷ 231
    ∷ 188 ∷ 232 ∷ 107 ∷ 165 ∷ 189 ∷ 128 ∷ 55 ∷ 193 ∷ 207 ∷ 112 ∷ 97 ∷ 211 ∷ 132 ∷ 254 ∷ 233 ∷ 3
    ∷ 249 ∷ 217 ∷ 242 ∷ 199 ∷ 151 ∷ 221 ∷ 59 ∷ 239 ∷ 91 ∷ 84 ∷ 131 ∷ 206 ∷ 24 ∷ 61 ∷ 183 ∷ 246 ∷ 14
    ∷ 191 ∷ 17 ∷ 178 ∷ 87 ∷ 122 ∷ 23 ∷ 234 ∷ 250 ∷ 32 ∷ 43 ∷ 53 ∷ 80 ∷ 74 ∷ 230 ∷ 212 ∷ 180 ∷ 15
    ∷ 215 ∷ 77 ∷ 214 ∷ 37 ∷ 138 ∷ 65 ∷ 248 ∷ 177 ∷ 174 ∷ 163 ∷ 229 ∷ 45 ∷ 109 ∷ 253 ∷ 16 ∷ 218 ∷ 11
    ∷ 30 ∷ 101 ∷ 26 ∷ 172 ∷ 50 ∷ 96 ∷ 187 ∷ 216 ∷ 154 ∷ 155 ∷ 243 ∷ 175 ∷ 203 ∷ 185 ∷ 73 ∷ 31 ∷ 13
    ∷ 70 ∷ 200 ∷ 64 ∷ 144 ∷ 237 ∷ 202 ∷ 209 ∷ 21 ∷ 123 ∷ 127 ∷ 182 ∷ 158 ∷ 82 ∷ 219 ∷ 99 ∷ 66 ∷ []

-- the row with the values at the power e of alpha
abbrev pub place_of : ℕ → ℕ
place_of e = slice_index places (e % 255)

-- In a tile each row is a sum of sources, each times its weight: the matrices have the weights of
-- source i in column i, 32 columns in each.
pub record AreWeighted (w : ℕ → List (List ℕ)) (count : ℕ) (source : ℕ → ℕ → ℕ)
    (tile : List (List ℕ)) : Type 0 where
  pub rows : (c : ℕ) → length (w c) ≡ 256
  pub columns : (c p : ℕ) → p < 256 → length (row (w c) p) ≡ 32
  pub weights : (c p i : ℕ) → p < 256 → i < 32 → lane (w c) p i < 256
  pub sources : (i t : ℕ) → source i t < 256
  pub sums : (p t : ℕ) → p < 256 → t < 64
      → lane tile p t ≡ byte_sum count (λ i. product (lane (w (i / 32)) p (i % 32)) (source i t))

-- the rows of a tile are turned as those of the matrices of their weights are
abbrev pub AreTurned : List (List ℕ) → List (List ℕ) → (List (List ℕ) → List (List ℕ)) → Type 0
AreTurned old new turned =
    (w : ℕ → List (List ℕ)) (count : ℕ) (source : ℕ → ℕ → ℕ) → AreWeighted w count source old
    → AreWeighted (λ c. turned (w c)) count source new

-- k rows of bytes, from a column on, and zeros behind them
abbrev pub AreLoaded : List ℕ → ℕ → ℕ → ℕ → List (List ℕ) → Type 0
AreLoaded bytes k width at tile =
    (p t : ℕ) → p < 256 → t < 64 → lane tile p t ≡ below k p (coefficient bytes width (at + t) p)

-- The bits of coefficients in groups, and sums of sources looked up by them.
use Rattle.std.specs.Prelude.{ℕ, ◌≡◌, ◌<◌, ◌≤◌, ◌-◌, zero, suc, slice_index_or, [], ◌+◌, ◌*◌, ◌/◌}
use Rattle.std.specs.Prelude.{◌%◌, ◌^◌, ◌==◌, List, cond, slice_index}
use lib.Dec.{ltb}
use Rattle.gf256.specs.Arithmetic.{sum_of, doubled}
use Rattle.gf256.specs.ByteSums.{byte_sum}
use Rattle.gf256.specs.declared.sources.Sources.{Sources}
use Rattle.gf256.specs.declared.tiling.Columns.{Columns}
use Rattle.gf256.specs.declared.tiling.Tiling.{Tiling}

-- x where the bit is 1, else 0
abbrev pub pick : ℕ → ℕ → ℕ
pick b x = cond (b == 1) x 0

-- bit d of c
abbrev pub bit : ℕ → ℕ → ℕ
bit d c = (c / 2 ^ d) % 2

-- the sum of those of the first n for which the bit of p is 1
abbrev pub choice_sum : ℕ → ℕ → (ℕ → ℕ) → ℕ
choice_sum n p f = byte_sum n (λ x. pick (bit x p) (f x))

-- the item, and 0 from place n on
abbrev pub below : ℕ → ℕ → ℕ → ℕ
below n i x = cond (ltb i n) x 0

-- the sum of f 0, f 1, .., where each step doubles what came before
unfoldable pub horner : ℕ → (ℕ → ℕ) → ℕ
horner zero f = 0
horner (suc n) f = sum_of (doubled (horner n f)) (f n)

-- byte t of the entry at a place, of a list of entries
abbrev pub lane : List (List ℕ) → ℕ → ℕ → ℕ
lane table place t = slice_index (slice_index_or table place []) t

-- byte t of an entry of a table of 64 bytes an entry
abbrev pub entry_byte : List ℕ → ℕ → ℕ → ℕ
entry_byte table place t = slice_index table (64 * place + t)

-- byte j of source i
abbrev pub source_byte : Sources → ℕ → ℕ → ℕ
source_byte sources i j = slice_index sources.bytes.now (i * sources.stride + j)

-- the table has the sums of the groups below m, of the columns from one on
abbrev pub IsFilled : List ℕ → Sources → Tiling → ℕ → ℕ → Type 0
IsFilled table sources tiling at m = (q p t : ℕ) → q < m → p < tiling.entries → t < 64
    → entry_byte table (q * tiling.entries + p) t ≡ choice_sum tiling.size p
    (λ x. below sources.count (q + x * tiling.groups)
    (source_byte sources (q + x * tiling.groups) (at + t)))

-- eight times a number whose first bits are these
pub record IsEightfold (n size : ℕ) (bits : ℕ → ℕ) : Type 0 where
  pub whole : n ≡ 8 * (n / 8)
  pub each : (x : ℕ) → x < size → bit x (n / 8) ≡ bits x

-- from a place on there are the bits of a row's coefficients, the highest m bits so far, each bit
-- 16 places behind the one above it
abbrev pub IsList : List ℕ → ℕ → List ℕ → ℕ → Tiling → ℕ → Type 0
IsList lists at coefficients row tiling m =
    (b q : ℕ) → b < m → q < tiling.groups
    → IsEightfold (slice_index lists (at + b * 16 + q)) tiling.size
    (λ x. bit (7 - b) (slice_index coefficients (row + (q + x * tiling.groups))))

-- a lane of the sum that the list from a place on looks up in the table
abbrev pub sum_at : List ℕ → List ℕ → Tiling → ℕ → ℕ → ℕ
sum_at table lists tiling at t = horner 8 (λ b. byte_sum tiling.groups (λ q. slice_index table
    (64 * (q * tiling.entries) + 8 * slice_index lists (at + b * 16 + q) + t)))

-- a lane of the sum that the list of row r looks up in the table
abbrev pub tile_sum : List ℕ → List ℕ → Tiling → ℕ → ℕ → ℕ
tile_sum table lists tiling r t = sum_at table lists tiling (r * 128) t

-- to some columns of each row a sum was added, and nothing else has changed
pub record IsAdded (old new : List ℕ) (rows : ℕ) (columns : Columns)
    (sum : ℕ → ℕ → ℕ) : Type 0 where
  pub within : (r t : ℕ) → r < rows → t < columns.used
      → slice_index new (r * columns.width + (columns.at + t))
      ≡ sum_of (slice_index old (r * columns.width + (columns.at + t))) (sum r t)
  pub before : (r j : ℕ) → r < rows → j < columns.at
      → slice_index new (r * columns.width + j) ≡ slice_index old (r * columns.width + j)
  pub after : (r j : ℕ) → r < rows → j < columns.width → columns.at + columns.used ≤ j
      → slice_index new (r * columns.width + j) ≡ slice_index old (r * columns.width + j)
  pub above : (p : ℕ) → rows * columns.width ≤ p → slice_index new p ≡ slice_index old p

-- each byte is at most eight times the greatest number below a limit
abbrev pub AreSmall : List ℕ → ℕ → Type 0
AreSmall lists limit = (i : ℕ) → slice_index lists i + 8 ≤ 8 * limit

-- The laws of the partition of a valid FTI: how many symbols and blocks there are, and where each
-- symbol lies.
use Rattle.std.specs.Prelude.{◌≡◌, ◌<◌, ◌≤◌, ◌+◌, ◌-◌, ◌*◌, ◌/◌, ◌%◌, ◌^◌, ◌⊎◌, min, ℕ, zero, suc, refl}
use Rattle.std.specs.Int.{div_ceil}
use Rattle.std.proofs.Common.{◌∙◌, ap, subst, arith, inl, inr, add-zero, add-suc}
use Rattle.std.proofs.lemmas.Bool.{cases_lt, lt-ltb, le-ltb}
use Rattle.std.proofs.lemmas.Nat.{div-mul-add, div-add-mod'}
use Rattle.std.proofs.Math.Nat.{mul-le-mul_left, mul-le-mul_right, mul_comm, mod-lt, le-div_iff_mul-le, div-le_of_le-mul, div-lt_iff_lt-mul}
use Rattle.partition.specs.Fti.{Fti, IsValidFti, ceiling, symbol_count, block_count, large_blocks, source_count, start_of, encoding_count, last_length, source_place}

-- enough parts, and with one less there aren't enough
pub ceiling_bounds : (a b : ℕ) → 0 < a → 0 < b → (a ≤ ceiling a b * b) × (ceiling a b * b < a + b) × (1 ≤ ceiling a b)
unfolding ceiling
ceiling_bounds a b ha hb =
    let e : (a + (b - 1)) / b * b + (a + (b - 1)) % b ≡ a + (b - 1) = div-add-mod' (a + (b - 1)) b in
    let r : (a + (b - 1)) % b < b = omega arith in
    let low : a ≤ (a + (b - 1)) / b * b = omega arith in
    let high : (a + (b - 1)) / b * b < a + b = omega arith in
    (low, high, grind (arith, low))

pub ceiling_is : (a b : ℕ) → 0 < b → ceiling a b ≡ div_ceil a b
unfolding ceiling
ceiling_is a b hb =
    let e : a / b * b + a % b ≡ a = div-add-mod' a b in
    elim (cases_lt 0 (a % b)) [
      | inl some ↦
          let part : a + (b - 1) ≡ (a / b + 1) * b + (a % b - 1) = omega (arith, e, some) in
          ap (λ (x : ℕ). x / b) part ∙ div-mul-add (a / b + 1) b (a % b - 1) (omega arith) ∙ omega arith
      | inr none ↦
          let part : a + (b - 1) ≡ a / b * b + (b - 1) = omega (arith, e, none) in
          ap (λ (x : ℕ). x / b) part ∙ div-mul-add (a / b) b (b - 1) (omega arith) ∙ omega arith
    ]

-- the source symbols of a block that isn't large
abbrev pub small_count : Fti → ℕ
small_count f = symbol_count f / block_count f

module _ (f : Fti) (valid : IsValidFti f) where
  pub symbols_bounds : (f.transfer_length ≤ symbol_count f * f.symbol_length) × (symbol_count f * f.symbol_length < f.transfer_length + f.symbol_length) × (1 ≤ symbol_count f)
  unfolding symbol_count
  symbols_bounds = ceiling_bounds f.transfer_length f.symbol_length valid.some_length valid.some_symbol

  pub symbols_are : symbol_count f ≡ div_ceil f.transfer_length f.symbol_length
  unfolding symbol_count
  symbols_are = ceiling_is f.transfer_length f.symbol_length valid.some_symbol

  pub some_symbol : 1 ≤ symbol_count f
  some_symbol = symbols_bounds.2

  pub blocks_bounds : (symbol_count f ≤ block_count f * f.block_length) × (block_count f * f.block_length < symbol_count f + f.block_length) × (1 ≤ block_count f)
  unfolding block_count
  blocks_bounds = ceiling_bounds (symbol_count f) f.block_length symbols_bounds.2 valid.some_block

  pub blocks_are : block_count f ≡ div_ceil (symbol_count f) f.block_length
  unfolding block_count
  blocks_are = ceiling_is (symbol_count f) f.block_length valid.some_block

  pub some_block : 0 < block_count f
  some_block = omega (arith, blocks_bounds.2)

  -- without its last symbol the object isn't whole
  short_by_one : (symbol_count f - 1) * f.symbol_length < f.transfer_length
  short_by_one =
      let split : (symbol_count f - 1 + 1) * f.symbol_length ≡ symbol_count f * f.symbol_length = ap (λ (x : ℕ). x * f.symbol_length) (omega (arith, symbols_bounds.2)) in
      omega (arith, split, symbols_bounds.1)

  -- no more source symbols than bytes
  pub symbols_few : symbol_count f ≤ f.transfer_length
  symbols_few =
      let one : 1 ≤ f.symbol_length = omega (arith, valid.some_symbol) in
      let bytes : (symbol_count f - 1) * 1 ≤ (symbol_count f - 1) * f.symbol_length = mul-le-mul_left (symbol_count f - 1) one in
      omega (arith, bytes, short_by_one)

  -- no more blocks than source symbols
  pub fewer_blocks : block_count f ≤ symbol_count f
  fewer_blocks =
      let one : 1 ≤ f.block_length = omega (arith, valid.some_block) in
      elim (cases_lt (symbol_count f) (block_count f)) [
        | inr enough ↦ enough
        | inl more ↦
            let m : (symbol_count f + 1) * f.block_length ≤ block_count f * f.block_length = mul-le-mul_right f.block_length (omega (arith, more)) in
            let k : symbol_count f * 1 ≤ symbol_count f * f.block_length = mul-le-mul_left (symbol_count f) one in
            omega (arith, blocks_bounds.1, m, k)
      ]

  -- the source symbols shared out: as many to each block, and one more to each large block
  pub shares : (small_count f * block_count f + large_blocks f ≡ symbol_count f) × (large_blocks f < block_count f) × (1 ≤ small_count f)
  unfolding large_blocks
  shares =
      let e = div-add-mod' (symbol_count f) (block_count f) in
      let r : symbol_count f % block_count f < block_count f = mod-lt (symbol_count f) some_block in (
        omega (arith, e),
        omega (arith, e, r),
        (le-div_iff_mul-le {k = block_count f} {x = 1} {y = symbol_count f} some_block).1 (omega (arith, fewer_blocks)),
      )

  pub large_is : large_blocks f ≡ symbol_count f % block_count f
  large_is = let e = div-add-mod' (symbol_count f) (block_count f) in omega (arith, e, shares.0)

  pub large_count : (b : ℕ) → b < large_blocks f → source_count f b ≡ small_count f + 1
  unfolding source_count ceiling
  large_count b l =
      let part : symbol_count f + (block_count f - 1) ≡ (small_count f + 1) * block_count f + (large_blocks f - 1) = omega (arith, shares, l, some_block) in
      rw (lt-ltb b (large_blocks f) l)
      (ap (λ (x : ℕ). x / block_count f) part ∙ div-mul-add (small_count f + 1) (block_count f) (large_blocks f - 1) (omega (arith, shares, l)))

  pub other_count : (b : ℕ) → large_blocks f ≤ b → source_count f b ≡ small_count f
  unfolding source_count
  other_count b l = rw (le-ltb b (large_blocks f) l)

  count_cases : (b : ℕ) → ((b < large_blocks f) × (source_count f b ≡ small_count f + 1)) ⊎ ((large_blocks f ≤ b) × (source_count f b ≡ small_count f))
  count_cases b = elim (cases_lt b (large_blocks f)) [ inl l ↦ inl (l, large_count b l) | inr l ↦ inr (l, other_count b l) ]

  -- the start of a block in closed form
  pub start_is : (b : ℕ) → start_of f b ≡ b * small_count f + min b (large_blocks f)
  unfolding start_of
  start_is zero = omega arith
  start_is (suc b) =
      let h = start_is b in
      elim (count_cases b) [ inl w ↦ omega (arith, h, w.0, w.1) | inr w ↦ omega (arith, h, w.0, w.1) ]

  -- the blocks hold all source symbols
  pub start_end : start_of f (block_count f) ≡ symbol_count f
  start_end = start_is (block_count f) ∙ (let c = mul_comm (block_count f) (small_count f) in omega (arith, shares, c))

  -- no block is empty
  pub some_source : (b : ℕ) → 1 ≤ source_count f b
  some_source b = elim (count_cases b) [ inl w ↦ omega (arith, w.1) | inr w ↦ omega (arith, w.1, shares) ]

  -- no block has more source symbols than the FTI allows
  pub source_most : (b : ℕ) → source_count f b ≤ f.block_length
  source_most b =
      let c = mul_comm (block_count f) (small_count f) in
      elim (count_cases b) [
        | inl w ↦ elim (cases_lt (small_count f) f.block_length) [
          | inl l ↦ omega (arith, w.1, l)
          | inr l ↦
              let m : block_count f * f.block_length ≤ block_count f * small_count f = mul-le-mul_left (block_count f) l in
              absurd (omega (arith, shares, w.0, blocks_bounds.0, m, c))
        ]
        | inr w ↦ elim (cases_lt f.block_length (small_count f)) [
          | inr l ↦ omega (arith, w.1, l)
          | inl l ↦
              let m : block_count f * (f.block_length + 1) ≤ block_count f * small_count f = mul-le-mul_left (block_count f) (omega (arith, l)) in
              absurd (omega (arith, shares, blocks_bounds.0, m, c, some_block))
        ]
      ]

  -- no block has more encoding symbols than the FTI allows
  pub encoding_most : (b : ℕ) → encoding_count f b ≤ f.max_symbols
  unfolding encoding_count
  encoding_most b = div-le_of_le-mul f.block_length (mul-le-mul_right f.max_symbols (source_most b))

  -- the source symbols of a block are encoding symbols
  pub source_encoding : (b : ℕ) → source_count f b ≤ encoding_count f b
  unfolding encoding_count
  source_encoding b =
      (le-div_iff_mul-le {k = f.block_length} {x = source_count f b} {y = source_count f b * f.max_symbols} valid.some_block).1
      (mul-le-mul_left (source_count f b) valid.no_more)

  pub counts : (b : ℕ) → b < block_count f → (1 ≤ source_count f b) × (source_count f b ≤ 255) × (encoding_count f b ≤ 255)
  counts b hb = (some_source b, omega (arith, source_most b, valid.no_more, valid.max_below), omega (arith, encoding_most b, valid.max_below))

  -- the start of the block behind
  pub start_step : (b : ℕ) → start_of f (suc b) ≡ start_of f b + source_count f b
  unfolding start_of
  start_step b = refl

  rising : (b n : ℕ) → start_of f b ≤ start_of f (b + n)
  rising b zero = rw add-zero (omega arith)
  rising b (suc n) = rw add-suc (omega (arith, rising b n, start_step (b + n)))

  -- a later block starts no earlier
  pub rising_to : (b d : ℕ) → b ≤ d → start_of f b ≤ start_of f d
  rising_to b d l = let e : b + (d - b) ≡ d = omega arith in subst (λ (x : ℕ). start_of f b ≤ start_of f x) e (rising b (d - b))

  -- a block ends within the object's source symbols
  pub block_end : (b : ℕ) → b < block_count f → start_of f b + source_count f b ≤ symbol_count f
  block_end b hb = omega (arith, rising_to (suc b) (block_count f) (omega (arith, hb)), start_step b, start_end)

  pub start_fits : (b : ℕ) → b < block_count f → start_of f b < 2 ^ 48
  start_fits b hb = omega (arith, block_end b hb, symbols_few, valid.length_below)

  pub symbol_within : (b i : ℕ) → b < block_count f → i < source_count f b → start_of f b + i < symbol_count f
  symbol_within b i hb hi = omega (arith, block_end b hb, hi)

  -- the bytes of a source symbol end within the padded object
  pub symbol_end : (b i : ℕ) → b < block_count f → i < source_count f b
      → (start_of f b + i) * f.symbol_length + f.symbol_length ≤ symbol_count f * f.symbol_length
  symbol_end b i hb hi =
      let m : (start_of f b + i + 1) * f.symbol_length ≤ symbol_count f * f.symbol_length = mul-le-mul_right f.symbol_length (omega (arith, symbol_within b i hb hi)) in
      omega (arith, m)

  pub padded_below : symbol_count f * f.symbol_length < 2 ^ 49
  padded_below = omega (arith, symbols_bounds.1, valid.length_below, valid.symbol_below)

  pub place_fits : (b i c : ℕ) → b < block_count f → i < source_count f b → c < f.symbol_length → source_place f b i c < 2 ^ 49
  place_fits b i c hb hi hc = omega (arith, symbol_end b i hb hi, padded_below, hc)

  -- the first byte of a source symbol is never padding
  pub in_object : (b i : ℕ) → b < block_count f → i < source_count f b → source_place f b i 0 < f.transfer_length
  in_object b i hb hi = omega (arith, symbol_end b i hb hi, symbols_bounds.1)

  -- each block begins with a byte of the object
  pub begins_within : (b : ℕ) → b < block_count f → start_of f b * f.symbol_length < f.transfer_length
  begins_within b hb = omega (arith, in_object b 0 hb (omega (arith, some_source b)))

  -- the last source symbol holds at least one byte of the object
  pub last_bounds : ((symbol_count f - 1) * f.symbol_length + last_length f ≡ f.transfer_length) × (1 ≤ last_length f) × (last_length f ≤ f.symbol_length)
  unfolding last_length
  last_bounds =
      let split : (symbol_count f - 1 + 1) * f.symbol_length ≡ symbol_count f * f.symbol_length = ap (λ (x : ℕ). x * f.symbol_length) (omega (arith, symbols_bounds.2)) in
      (omega (arith, short_by_one), omega (arith, short_by_one), omega (arith, split, symbols_bounds.0))

  -- the block of a source symbol
  locate : (n s : ℕ) → s < start_of f n → (b : ℕ) × (b < n) × (start_of f b ≤ s) × (s < start_of f b + source_count f b)
  unfolding start_of
  locate zero s l = absurd (omega arith)
  locate (suc n) s l =
      elim (cases_lt s (start_of f n)) [
        | inl e ↦ (let w = locate n s e in (w.0, omega (arith, w.1), w.2, w.3))
        | inr e ↦ (n, omega arith, e, l)
      ]

  -- each byte of the object is in a block
  pub covers : (x : ℕ) → x < f.transfer_length → (b i c : ℕ) × (b < block_count f) × (i < source_count f b) × (c < f.symbol_length) × (source_place f b i c ≡ x)
  covers x l =
      let e = div-add-mod' x f.symbol_length in
      let r : x % f.symbol_length < f.symbol_length = mod-lt x valid.some_symbol in
      let s : x / f.symbol_length < symbol_count f = (div-lt_iff_lt-mul {k = f.symbol_length} {x = x} {y = symbol_count f} valid.some_symbol).1 (omega (arith, l, symbols_bounds.0)) in
      let w = locate (block_count f) (x / f.symbol_length) (omega (arith, start_end, s)) in
      let same : start_of f w.0 + (x / f.symbol_length - start_of f w.0) ≡ x / f.symbol_length = omega (arith, w.2) in (
        w.0,
        x / f.symbol_length - start_of f w.0,
        x % f.symbol_length,
        w.1,
        omega (arith, w.2, w.3),
        r,
        ap (λ (y : ℕ). y * f.symbol_length + x % f.symbol_length) same ∙ e,
      )

  -- a source symbol is in one block
  pub apart_blocks : (b d i : ℕ) → b < block_count f → d < block_count f → i < source_count f d
      → start_of f b ≤ start_of f d + i → start_of f d + i < start_of f b + source_count f b → d ≡ b
  apart_blocks b d i hb hd hi low high =
      let sb = start_step b in
      let sd = start_step d in
      let not_before : d < b → ⊥ = λ l. omega (arith, rising_to (suc d) b (omega arith), sd, hi, low) in
      let not_behind : b < d → ⊥ = λ l. omega (arith, rising_to (suc b) d (omega arith), sb, high) in
      omega (arith, not_before, not_behind)

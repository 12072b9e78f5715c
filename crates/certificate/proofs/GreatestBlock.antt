-- The first block is the greatest.
use Rattle.std.specs.Prelude.{◌≡◌, ℕ, ◌≤◌, ◌+◌, ◌*◌, ◌/◌}
use Rattle.std.proofs.Common.{inl, inr, arith}
use Rattle.std.proofs.lemmas.Bool.{cases_lt}
use Rattle.std.proofs.Math.Nat.{mul-le-mul_right, div-mul-le_self, le-div_iff_mul-le}
use Rattle.partition.specs.Fti.{Fti, IsValidFti, source_count, encoding_count, large_blocks}
use Rattle.partition.proofs.Laws.{large_count, other_count, source_encoding, some_source, encoding_most}

module _ (f : Fti) (valid : IsValidFti f) where
  pub most_source : (b : ℕ) → source_count f b ≤ source_count f 0
  most_source b = elim (cases_lt 0 (large_blocks f)) [
    | inl some ↦ elim (cases_lt b (large_blocks f)) [
      | inl lt ↦ omega (arith, large_count f valid b lt, large_count f valid 0 some)
      | inr past ↦ omega (arith, other_count f valid b past, large_count f valid 0 some)
    ]
    | inr none ↦ omega (arith, other_count f valid b (omega arith), other_count f valid 0 none)
  ]

  pub most_encoding : (b : ℕ) → encoding_count f b ≤ encoding_count f 0
  unfolding encoding_count
  most_encoding b =
      let whole = div-mul-le_self (source_count f b * f.max_symbols) f.block_length in
      let more = mul-le-mul_right f.max_symbols (most_source b) in
      (le-div_iff_mul-le {k = f.block_length} {x = source_count f b * f.max_symbols / f.block_length} {y = source_count f 0 * f.max_symbols} valid.some_block).1 (omega (arith, whole, more))

  -- what a block has, the greatest has
  pub most_symbols : (b n : ℕ) → n ≤ encoding_count f b → n ≤ encoding_count f 0
  most_symbols b n le = omega (arith, le, most_encoding b)

  -- at least one symbol, and at most 255
  pub some_encoding : 1 ≤ encoding_count f 0
  some_encoding = omega (arith, some_source f valid 0, source_encoding f valid 0)

  pub few_symbols : (n : ℕ) → n ≤ encoding_count f 0 → n ≤ 255
  few_symbols n le = omega (arith, le, encoding_most f valid 0, valid.max_below)

  -- the rows of any block fit into those of the greatest
  pub rows_of_block : (b : ℕ) → source_count f b * f.symbol_length ≤ source_count f 0 * f.symbol_length
  rows_of_block b = mul-le-mul_right f.symbol_length (most_source b)

  -- nor are a block's source symbols and as many repair symbols as the greatest block has
  pub with_repair : (b k n : ℕ) → k ≡ source_count f b → source_count f 0 + n ≤ encoding_count f 0 → k + n ≤ encoding_count f 0
  with_repair b k n is le = omega (arith, is, le, most_source b)

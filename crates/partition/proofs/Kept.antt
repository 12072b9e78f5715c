-- What an FTI keeps: it is made by one division of the symbols by the blocks, and gives the symbols
-- back.
use Rattle.std.specs.Prelude.{◌≡◌, ℕ, ◌+◌, ◌*◌, ◌/◌, ◌%◌, ◌≤◌, nat_lt, nat_le, refl}
use Rattle.std.specs.Int.{div_ceil}
use Rattle.std.proofs.Common.{◌∙◌, ap, arith, sym}
use Rattle.std.proofs.lemmas.Bool.Decides.{nat_tests}
use Rattle.std.proofs.Math.Nat.{mul_comm, le-div_iff_mul-le}
use Rattle.partition.specs.Fti.{Fti, IsValidFti, symbol_count, block_count, source_count, encoding_count}
use Rattle.partition.specs.Kept.{IsKept}
use Rattle.partition.proofs.Laws.{symbols_are, blocks_are, large_is, shares, some_block}

pub kept_of : (f : Fti) → IsValidFti f → (symbols blocks : ℕ)
    → symbols ≡ div_ceil f.transfer_length f.symbol_length → blocks ≡ div_ceil symbols f.block_length
    → IsKept f blocks (symbols % blocks) (symbols / blocks)
kept_of f valid symbols blocks s b =
    let symbols_is : symbols ≡ symbol_count f = s ∙ sym (symbols_are f valid) in
    let blocks_is : blocks ≡ block_count f = b ∙ ap (λ (x : ℕ). div_ceil x f.block_length) symbols_is ∙ sym (blocks_are f valid) in
    rw (symbols_is, blocks_is) (record {
      valid = valid;
      blocks_are = refl;
      large_are = sym (large_is f valid);
      small_is = refl;
    })

module _ (f : Fti) (blocks large small : ℕ) (kept : IsKept f blocks large small) where
  -- the symbols of all blocks
  pub kept_symbols : blocks * small + large ≡ symbol_count f
  kept_symbols =
      let c = mul_comm (block_count f) (symbol_count f / block_count f) in
      rw (kept.blocks_are, kept.large_are, kept.small_is) (omega (arith, c, shares f kept.valid))

  pub kept_some : 1 ≤ blocks
  kept_some = rw kept.blocks_are (some_block f kept.valid)

-- whether the block has an encoding symbol, without the division
pub has_multiplied : (f : Fti) → IsValidFti f → (b j : ℕ)
    → nat_lt j (encoding_count f b) ≡ nat_le ((j + 1) * f.block_length) (source_count f b * f.max_symbols)
unfolding encoding_count
has_multiplied f valid b j =
    let w = le-div_iff_mul-le {k = f.block_length} {x = j + 1} {y = source_count f b * f.max_symbols} valid.some_block in
    grind (arith, nat_tests, w.0, w.1)

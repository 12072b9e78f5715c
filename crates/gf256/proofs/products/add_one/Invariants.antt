use Rattle.std.proofs.Common.{◌≡◌, ℕ, ◌<◌, bit_xor, get_or, length}
use Rattle.gf256.specs.Arithmetic.{product}
use Rattle.gf256.specs.ByteSums.{byte_sum}
use Rattle.gf256.specs.Slices.{source_byte}
use Rattle.gf256.proofs.products.add_one.Given as goal

abbrev pub invariant-loop-i : goal.invariant-loop-i
invariant-loop-i l = record {
  sums : (j : ℕ) → j < length l.fn.output → get_or l.output j 0 ≡ bit_xor (get_or l.fn.output j 0) (byte_sum l.i (λ i. product (get_or l.coefficients i 0) (source_byte l.sources i j)));
}

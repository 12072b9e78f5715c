use Rattle.std.proofs.Common.{◌≡◌, ℕ, ◌<◌, ◌≤◌, ◌+◌, ◌*◌, bit_xor, get_or}
use Rattle.gf256.specs.Arithmetic.{product}
use Rattle.gf256.specs.ByteSums.{byte_sum}
use Rattle.gf256.specs.Slices.{IsList, AreSmall, source_byte}
use Rattle.gf256.proofs.products.add_table.Given as goal

abbrev pub invariant-loop-r : goal.invariant-loop-r
invariant-loop-r l = ((r : ℕ) → r < l.r → IsList l.lists (r * 128) l.bytes (r * l.count + l.first) l.tiling 8) × AreSmall l.lists l.tiling.entries

abbrev pub invariant-loop-t : goal.invariant-loop-t
invariant-loop-t l = record {
  done : (r j : ℕ) → r < l.rows → j < l.width → j < 64 * l.t → get_or l.outputs (r * l.width + j) 0 ≡ bit_xor (get_or l.fn.outputs (r * l.width + j) 0) (byte_sum l.sources.count (λ i. product (get_or l.coefficients.bytes.now (r * l.count + l.first + i) 0) (source_byte l.sources i j)));
  left : (r j : ℕ) → r < l.rows → j < l.width → 64 * l.t ≤ j → get_or l.outputs (r * l.width + j) 0 ≡ get_or l.fn.outputs (r * l.width + j) 0;
  above : (p : ℕ) → l.rows * l.width ≤ p → get_or l.outputs p 0 ≡ get_or l.fn.outputs p 0;
}

use Rattle.std.proofs.Common.{◌≡◌, ℕ, ◌<◌, ◌+◌, ◌*◌, bit_xor, get_or}
use Rattle.gf256.specs.ByteSums.{byte_sum}
use Rattle.gf256.specs.Slices.{horner}
use Rattle.gf256.proofs.products.listed_sum.Given as goal

abbrev pub invariant-loop-b : goal.invariant-loop-b
invariant-loop-b l = (t : ℕ) → t < 64 → get_or l.sum t 0 ≡ horner l.b (λ b. byte_sum l.tiling.groups (λ q. get_or l.table (64 * (q * l.tiling.entries) + 8 * get_or l.lists (l.at + b * 16 + q) 0 + t) 0))

abbrev pub invariant-loop-q : goal.invariant-loop-q
invariant-loop-q l = (t : ℕ) → t < 64 → get_or l.sum t 0 ≡ bit_xor (get_or l.initial.sum t 0) (byte_sum l.q (λ q. get_or l.table (64 * (q * l.tiling.entries) + 8 * get_or l.lists (l.row + q) 0 + t) 0))

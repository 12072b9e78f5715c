use Rattle.std.proofs.Common.{◌≡◌, ℕ, ◌<◌, get_or}
use Rattle.gf256.specs.Slices.{IsList, AreSmall}
use Rattle.gf256.proofs.bit_lists.put_bits.Given as goal

abbrev pub invariant-loop-b : goal.invariant-loop-b
invariant-loop-b l = IsList l.lists l.at l.coefficients l.row l.tiling l.b × ((p : ℕ) → p < l.at → get_or l.lists p 0 ≡ get_or l.fn.lists p 0) × (AreSmall l.fn.lists (l.tiling.entries) → AreSmall l.lists (l.tiling.entries))

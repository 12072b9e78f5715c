use Rattle.std.proofs.Common.{◌≡◌, ℕ, ◌<◌, ◌+◌, ◌*◌, get_or, length}
use Rattle.gf256.specs.Slices.{lane}
use Rattle.gf256.proofs.bit_lists.parts_of.Given as goal

abbrev pub invariant-loop-x : goal.invariant-loop-x
invariant-loop-x l = record {
  long : length l.parts ≡ 5;
  lanes : (x i : ℕ) → x < l.x → i < 16 → lane l.parts x i ≡ get_or l.coefficients (l.row + (i + x * l.tiling.groups)) 0;
}

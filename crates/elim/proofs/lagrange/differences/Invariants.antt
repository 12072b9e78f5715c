use Rattle.std.proofs.Common.{◌≡◌, take}
use Rattle.lists.specs.Bytes.{IsByte}
use Rattle.elim.specs.Lagrange.{differences}
use Rattle.elim.proofs.lagrange.differences.Given as goal

abbrev pub invariant-loop-point : goal.invariant-loop-point
invariant-loop-point l = record {
  fits : IsByte l.product;
  so_far : l.product ≡ differences (take l.point-index l.points) l.x;
}

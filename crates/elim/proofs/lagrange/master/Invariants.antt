use Rattle.std.proofs.Common.{◌≡◌, ◌++◌, drop, take}
use Rattle.std.specs.List.{AllByRecursion}
use Rattle.lists.specs.Bytes.{IsByte}
use Rattle.gf256.specs.Arithmetic.{sum_of, product}
use Rattle.poly.proofs.Product.{times_over}
use Rattle.elim.proofs.lagrange.master.Given as goal

abbrev pub invariant-loop-coefficient : goal.invariant-loop-coefficient
invariant-loop-coefficient l = record {
  fits : IsByte l.before;
  bytes : AllByRecursion IsByte (take l.coefficient-index l.coefficient-items);
  so_far : l.master.items ++ times_over sum_of product l.first l.before (drop l.coefficient-index l.coefficient-items) ≡ times_over sum_of product l.first 0 l.coefficient-items;
}

use Rattle.std.proofs.Common.{◌≡◌, ◌+◌, length, drop}
use Rattle.lists.specs.Bytes.{IsByte}
use Rattle.gf256.specs.Arithmetic.{sum_of, product}
use Rattle.poly.specs.Polynomial.{value}
use Rattle.poly.proofs.Roots.{quotient_over}
use Rattle.elim.proofs.lagrange.numerator.Given as goal

abbrev pub invariant-loop-m : goal.invariant-loop-m
invariant-loop-m l = record {
  fits : IsByte l.value;
  count : length l.quotient.items ≡ length l.points;
  value : l.value ≡ value (drop (l.m + 1) l.master) l.point;
  quotient : drop l.m l.quotient.items ≡ quotient_over sum_of product 0 (drop l.m l.master) l.point;
}

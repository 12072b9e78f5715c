use Rattle.std.proofs.Common.{◌≡◌, ◌<◌, ◌≤◌, ℕ}
use Rattle.gf256.specs.Sums.{row_times}
use Rattle.elim.specs.Grid.{entry, HasElements, HasShape}
use Rattle.elim.proofs.combine.product.Given as goal

abbrev pub invariant-loop-i : goal.invariant-loop-i
invariant-loop-i g l = record {
  shape : HasShape l.a.rows l.b.cols l.made;
  elements : HasElements g.F.Field.element g.F.Field.ZERO l.made;
  done : (p q : ℕ) → p < l.i → q < l.b.cols → entry g.F.Field.ZERO l.made p q ≡ row_times g.F.Field.sum g.F.Field.product g.F.Field.ZERO (entry g.F.Field.ZERO l.a p) (entry g.F.Field.ZERO l.b) l.a.cols q;
  left : (p q : ℕ) → l.i ≤ p → p < l.a.rows → q < l.b.cols → entry g.F.Field.ZERO l.made p q ≡ g.F.Field.ZERO;
}

abbrev pub invariant-loop-m : goal.invariant-loop-m
invariant-loop-m g l = record {
  shape : HasShape l.a.rows l.b.cols l.made;
  elements : HasElements g.F.Field.element g.F.Field.ZERO l.made;
  done : (p q : ℕ) → p < l.i → q < l.b.cols → entry g.F.Field.ZERO l.made p q ≡ row_times g.F.Field.sum g.F.Field.product g.F.Field.ZERO (entry g.F.Field.ZERO l.a p) (entry g.F.Field.ZERO l.b) l.a.cols q;
  here : (q : ℕ) → q < l.b.cols → entry g.F.Field.ZERO l.made l.i q ≡ row_times g.F.Field.sum g.F.Field.product g.F.Field.ZERO (entry g.F.Field.ZERO l.a l.i) (entry g.F.Field.ZERO l.b) l.m q;
  left : (p q : ℕ) → l.i < p → p < l.a.rows → q < l.b.cols → entry g.F.Field.ZERO l.made p q ≡ g.F.Field.ZERO;
}

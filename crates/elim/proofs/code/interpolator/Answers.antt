use Rattle.std.proofs.Common.{◌≡◌, ◌<◌, ◌+◌, ◌∙◌, ℕ, List, length, get_or, arith, sym, ap}
use Rattle.lists.specs.Bytes.{IsByte}
use Rattle.gf256.specs.Arithmetic.{product, point}
use Rattle.poly.specs.Polynomial.{value}
use Rattle.elim.specs.CodePoints.{ArePoints}
use Rattle.elim.specs.Grid.{entry}
use Rattle.elim.specs.Lagrange.{IsNumerator}
use Rattle.elim.specs.Steps.{IsRowSet}
use Rattle.elim.proofs.CodePoints.{point_read}
use Rattle.elim.proofs.Basis.{AreUnits, units_more}
use Rattle.elim.proofs.Interpolating.{interpolates}
use Rattle.elim.proofs.code.interpolator.Goals as goal

-- the row that is set is the numerator, divided by its value v at its point x
one_more : (k i rows cols n s x v : ℕ) (points q valued row : List ℕ) (old new : ℕ → ℕ → ℕ) → ArePoints k points → i < k → rows ≡ k → cols ≡ k → n ≡ k
    → valued ≡ q → row ≡ q → x ≡ get_or points i x → v ≡ value valued x → product v s ≡ 1 → IsByte s → IsNumerator n i q
    → IsRowSet rows cols i (λ j. product s (get_or row j 0)) old new → AreUnits k i old → AreUnits k (i + 1) new
one_more k i rows cols n s x v points q valued row old new h li er ec en same same2 place is one es numerator set so_far =
    let here : x ≡ point i = point_read points i x (rw h.count h) (omega (arith, h.count)) place in
    let v_is : v ≡ value q (point i) = is ∙ ap (λ (l : List ℕ). value l x) same ∙ ap (value q) here in
    let numerator_k : IsNumerator k i q = rw en at numerator in
    let set_k : IsRowSet k k i (λ j. product s (get_or q j 0)) old new = rw (er, ec, same2) at set in
    units_more k i s q old new li es numerator_k (ap (λ (w : ℕ). product w s) (sym v_is) ∙ one) set_k so_far

pub loop-i-preserved : goal.loop-i-preserved
loop-i-preserved c = record {
  shape = record { rows = c.set_row.ensures.shape.rows ∙ c.loop-i.invariant.shape.rows; cols = c.set_row.ensures.shape.cols ∙ c.loop-i.invariant.shape.cols };
  elements = c.set_row.ensures.elements;
  units = one_more c.args.k c.loop-i.i c.loop-i.made.rows c.loop-i.made.cols (length c.deref-in-loop-i.result.now) c.inverse-scale.result c.index.result.now c.value.result
      c.in_ok-points.points.items c.in_ok-numerator.numerator.items c.deref-in-loop-i-3.result.now c.deref-in-loop-i-4.result.now (entry 0 c.loop-i.made) (entry 0 c.set_row.new.self)
      c.in_ok-points.ensures c.loop-i-test.true c.loop-i.invariant.shape.rows c.loop-i.invariant.shape.cols (ap length c.deref-in-loop-i.ensures.value ∙ c.in_ok-points.ensures.count)
      c.deref-in-loop-i-3.ensures.value c.deref-in-loop-i-4.ensures.value c.index.ensures c.value.ensures c.inverse-scale.ensures.inverse c.inverse-scale.ensures.fits c.in_ok-numerator.ensures
      c.set_row.ensures.entries c.loop-i.invariant.units;
}

pub returns-clause-interpolates : goal.returns-clause-interpolates
returns-clause-interpolates c =
    let all : c.loop-i.i ≡ c.args.k = omega arith in
    interpolates c.args.k c.loop-i.made c.loop-i.invariant.shape c.loop-i.invariant.elements (rw all at c.loop-i.invariant.units)

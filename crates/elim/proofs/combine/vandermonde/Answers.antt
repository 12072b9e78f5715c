use Rattle.std.proofs.Common.{◌≡◌, arith, length, ◌-◌, ◌<◌, sym, ap, ◌∙◌}
use Rattle.elim.proofs.Filling.{filled_row, filled_more, set_at}
use Rattle.std.proofs.lemmas.List.{get_or_read}
use Rattle.elim.specs.Grid.{entry}
use Rattle.elim.proofs.Systematic.{points_regular}
use Rattle.elim.proofs.VandermondePowers.{first_power, next_power}
use Rattle.elim.specs.Vandermonde.{vandermonde_entry}
use Rattle.elim.proofs.OfGrids.{singular_square}
use Rattle.poly.proofs.Lists.{all_by_recursion}
use Rattle.elim.proofs.combine.vandermonde.Goals as goal
use Rattle.elim.proofs.combine.vandermonde.Goals.{then-i-eq0, else-i-eq0}

pub loop-i-preserved : goal.loop-i-preserved
loop-i-preserved g c =
    let e : c.loop-j.j ≡ length c.args.points.now = omega arith in
    record {
      shape = c.loop-j.invariant.shape;
      elements = c.loop-j.invariant.elements;
      filled = filled_row (length c.args.points.now) c.loop-i.i _ _ (rw e at c.loop-j.invariant.filled);
    }

pub loop-j-preserved : goal.loop-j-preserved
loop-j-preserved g c = record {
  shape = record { rows = c.set.ensures.shape.rows ∙ c.loop-j.invariant.shape.rows; cols = c.set.ensures.shape.cols ∙ c.loop-j.invariant.shape.cols };
  elements = c.set.ensures.elements;
  filled = filled_more (length c.args.points.now) c.loop-i.i c.loop-j.j c.if-i-eq0.value (vandermonde_entry g.F.Field.product g.F.Field.ZERO g.F.Field.ONE c.args.points.now) (entry g.F.Field.ZERO c.loop-j.made) (entry g.F.Field.ZERO c.set.new.self) c.loop-j-test.true
      (elim c.if-i-eq0.branch [
        | then-i-eq0 w ↦ w.value-is ∙ w.ONE-value.ensures ∙ sym (first_power g.F.Field.product g.F.Field.ZERO g.F.Field.ONE c.args.points.now c.loop-i.i c.loop-j.j w.if-i-eq0.true)
        | else-i-eq0 w ↦ (
            let below : c.loop-i.i - 1 < c.loop-i.i = omega (arith, w.if-i-eq0.false) in
            let pos : 0 < c.loop-i.i = omega (arith, w.if-i-eq0.false) in
            w.value-is ∙ w.mul-value.ensures.value
            ∙ ap (g.F.Field.product w.index-points-j.result) (w.get.ensures.value ∙ c.loop-j.invariant.filled.rows (c.loop-i.i - 1) c.loop-j.j below c.loop-j-test.true)
            ∙ ap (λ (v : _). g.F.Field.product v (vandermonde_entry g.F.Field.product g.F.Field.ZERO g.F.Field.ONE c.args.points.now (c.loop-i.i - 1) c.loop-j.j))
            (get_or_read c.args.points.now c.loop-j.j w.index-points-j.result c.loop-j-test.true w.index-points-j.is g.F.Field.ZERO)
            ∙ next_power g.F.Field.product g.F.Field.ZERO g.F.Field.ONE c.args.points.now c.loop-i.i c.loop-j.j pos)
      ])
      c.loop-j.invariant.filled (set_at c.loop-j.made.cols (length c.args.points.now) c.loop-i.i c.loop-j.j c.if-i-eq0.value (entry g.F.Field.ZERO c.loop-j.made) (entry g.F.Field.ZERO c.set.new.self) c.loop-j.invariant.shape.cols c.set.ensures.entry);
}

pub returns-clause-regular : goal.returns-clause-regular
returns-clause-regular g c = λ len ep apart singular.
    points_regular g.F.Field.element g.F.Field.sum g.F.Field.product g.F.Field.ZERO g.F.Field.ONE g.met.F.Field.laws c.args.k c.args.points.now (entry g.F.Field.ZERO c.loop-i.made) len (all_by_recursion g.F.Field.element c.args.points.now ep) apart
    (λ i j li lj. (let all : i < c.loop-i.i = omega arith in let inside : j < length c.args.points.now = rw len lj in c.loop-i.invariant.filled.rows i j all inside))
    (rw c.loop-i.invariant.shape.rows at (singular_square g.F.Field.element g.F.Field.sum g.F.Field.product g.F.Field.ZERO c.loop-i.made singular))

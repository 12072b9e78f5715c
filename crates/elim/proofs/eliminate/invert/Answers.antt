use Rattle.std.proofs.Common.{◌≡◌, ◌<◌, arith, ◌∙◌, refl}
use Rattle.std.proofs.lemmas.Result.{err_from_is_err_and}
use Rattle.elim.proofs.RowTimes.{not_singular}
use Rattle.elim.proofs.Elimination.{reduced_none, inverse_all, singular_here, transposed_entry}
use Rattle.elim.proofs.Clearing.{reduced_more, step_then, step_at, normal_at, reduced_at, inverse_same}
use Rattle.elim.specs.Grid.{entry}
use Rattle.elim.specs.declared.eliminate.ElimError.TheVariants.{Singular, NoMemory}
use Rattle.elim.proofs.Entries.{elements_by_row, entries_at, shape_at}
use Rattle.elim.proofs.OfGrids.{as_squares, as_grids, singular_grid}
use Rattle.elim.proofs.eliminate.invert.Goals as goal

not_memory : NoMemory ≡ Singular → ⊥
not_memory e = cc

pub returns-in_err-work-clause-singular : goal.returns-in_err-work-clause-singular
returns-in_err-work-clause-singular g c = let p = err_from_is_err_and c.from_residual.result c.from_residual.ensures.1 in rw (p.1, p.2) (λ e. absurd (not_memory e))

pub returns-in_err-right-clause-singular : goal.returns-in_err-right-clause-singular
returns-in_err-right-clause-singular g c = let p = err_from_is_err_and c.from_residual-in_err-right.result c.from_residual-in_err-right.ensures.1 in rw (p.1, p.2) (λ e. absurd (not_memory e))

pub loop-p-init : goal.loop-p-init
loop-p-init g c = record {
  work = shape_at c.args.m.now.cols c.args.m.now.rows c.args.m.now.rows c.in_ok-work.work c.requires refl c.in_ok-work.ensures.shape;
  right = shape_at c.rows-size.result c.rows-size.result c.args.m.now.rows c.in_ok-right.right c.rows-size.ensures.value c.rows-size.ensures.value c.in_ok-right.ensures.shape;
  work_elements = c.in_ok-work.ensures.elements;
  right_elements = c.in_ok-right.ensures.elements;
  reduced = reduced_none g.F.Field.element g.F.Field.sum g.F.Field.product g.F.Field.ZERO g.F.Field.ONE g.met.F.Field.laws c.args.m.now.rows (entry g.F.Field.ZERO c.args.m.now) (entry g.F.Field.ZERO c.in_ok-work.work) (entry g.F.Field.ZERO c.in_ok-right.right)
      (entries_at g.F.Field.ZERO c.args.m.now.cols c.args.m.now.rows c.args.m.now.rows _ c.in_ok-work.work c.requires refl c.in_ok-work.ensures.entries)
      (entries_at g.F.Field.ZERO c.rows-size.result c.rows-size.result c.args.m.now.rows _ c.in_ok-right.right c.rows-size.ensures.value c.rows-size.ensures.value c.in_ok-right.ensures.entries);
}

pub returns-in_default-clause-singular : goal.returns-in_default-clause-singular
returns-in_default-clause-singular g c = λ _.
    let below : c.loop-p.p < c.args.m.now.rows = omega arith in
    singular_grid g.F.Field.element g.F.Field.sum g.F.Field.product g.F.Field.ZERO c.args.m.now (singular_here g.F.Field.element g.F.Field.sum g.F.Field.product g.F.Field.ZERO g.F.Field.ONE g.met.F.Field.laws c.args.m.now.rows c.loop-p.p (entry g.F.Field.ZERO c.loop-p.work) below
    (elements_by_row g.F.Field.element g.F.Field.ZERO c.loop-p.work c.loop-p.invariant.work_elements)
    c.loop-p.invariant.reduced.cleared
    (λ i le lt. c.in_default.ensures.none refl i le (rw c.loop-p.invariant.work.rows lt))
    (entry g.F.Field.ZERO c.args.m.now) (entry g.F.Field.ZERO c.loop-p.right)
    (elements_by_row g.F.Field.element g.F.Field.ZERO c.loop-p.right c.loop-p.invariant.right_elements)
    c.loop-p.invariant.reduced)

pub loop-p-preserved : goal.loop-p-preserved
loop-p-preserved g c =
    let same : c.normalize.new.work.rows ≡ c.args.m.now.rows = c.normalize.ensures.work.rows ∙ c.loop-p.invariant.work.rows in
    record {
      work = shape_at c.normalize.new.work.rows c.normalize.new.work.rows c.args.m.now.rows c.clear.new.work same same c.clear.ensures.work;
      right = shape_at c.normalize.new.work.rows c.normalize.new.work.rows c.args.m.now.rows c.clear.new.right same same c.clear.ensures.right;
      work_elements = c.clear.ensures.work_elements;
      right_elements = c.clear.ensures.right_elements;
      reduced = reduced_more g.F.Field.element g.F.Field.sum g.F.Field.product g.F.Field.ZERO g.F.Field.ONE g.met.F.Field.laws c.args.m.now.rows c.loop-p.p (entry g.F.Field.ZERO c.args.m.now) (entry g.F.Field.ZERO c.loop-p.work) (entry g.F.Field.ZERO c.loop-p.right) (entry g.F.Field.ZERO c.clear.new.work) (entry g.F.Field.ZERO c.clear.new.right)
          c.loop-p.invariant.reduced
          (step_then g.F.Field.element g.F.Field.sum g.F.Field.product g.F.Field.ZERO g.F.Field.ONE g.met.F.Field.laws c.args.m.now.rows c.loop-p.p (entry g.F.Field.ZERO c.loop-p.work) (entry g.F.Field.ZERO c.loop-p.right) (entry g.F.Field.ZERO c.normalize.new.work) (entry g.F.Field.ZERO c.normalize.new.right) (entry g.F.Field.ZERO c.clear.new.work) (entry g.F.Field.ZERO c.clear.new.right)
          (normal_at g.F.Field.element g.F.Field.sum g.F.Field.product g.F.Field.ZERO g.F.Field.ONE g.met.F.Field.laws c.loop-p.work.rows c.args.m.now.rows c.loop-p.p (entry g.F.Field.ZERO c.loop-p.work) (entry g.F.Field.ZERO c.loop-p.right) (entry g.F.Field.ZERO c.normalize.new.work) (entry g.F.Field.ZERO c.normalize.new.right) c.loop-p.invariant.work.rows (record { equal = c.normalize.ensures.same; kept = c.normalize.ensures.kept; here = c.normalize.ensures.one }))
          (step_at g.F.Field.element g.F.Field.sum g.F.Field.product g.F.Field.ZERO g.F.Field.ONE g.met.F.Field.laws c.normalize.new.work.rows c.args.m.now.rows c.loop-p.p (entry g.F.Field.ZERO c.normalize.new.work) (entry g.F.Field.ZERO c.normalize.new.right) (entry g.F.Field.ZERO c.clear.new.work) (entry g.F.Field.ZERO c.clear.new.right) same (record { equal = c.clear.ensures.same; more = c.clear.ensures.cleared })));
    }

pub returns-in_err-made-clause-singular : goal.returns-in_err-made-clause-singular
returns-in_err-made-clause-singular g c = let p = err_from_is_err_and c.from_residual-in_err-made.result c.from_residual-in_err-made.ensures.1 in rw (p.1, p.2) (λ e. absurd (not_memory e))

pub returns-clause-inverse : goal.returns-clause-inverse
returns-clause-inverse g c =
    as_grids g.F.Field.sum g.F.Field.product g.F.Field.ZERO g.F.Field.ONE c.args.m.now c.in_ok-made.made (
    let all : c.loop-p.p ≡ c.args.m.now.rows = omega arith in
    inverse_same g.F.Field.element g.F.Field.sum g.F.Field.product g.F.Field.ZERO g.F.Field.ONE g.met.F.Field.laws c.args.m.now.rows (entry g.F.Field.ZERO c.args.m.now) (transposed_entry (entry g.F.Field.ZERO c.loop-p.right)) (entry g.F.Field.ZERO c.in_ok-made.made)
    (entries_at g.F.Field.ZERO c.loop-p.right.cols c.loop-p.right.rows c.args.m.now.rows _ c.in_ok-made.made c.loop-p.invariant.right.cols c.loop-p.invariant.right.rows c.in_ok-made.ensures.entries)
    (inverse_all g.F.Field.element g.F.Field.sum g.F.Field.product g.F.Field.ZERO g.F.Field.ONE g.met.F.Field.laws c.args.m.now.rows (entry g.F.Field.ZERO c.args.m.now) (entry g.F.Field.ZERO c.loop-p.work) (entry g.F.Field.ZERO c.loop-p.right)
    (elements_by_row g.F.Field.element g.F.Field.ZERO c.args.m.now c.rows-size.ensures.matrix.elements)
    (elements_by_row g.F.Field.element g.F.Field.ZERO c.loop-p.work c.loop-p.invariant.work_elements)
    (elements_by_row g.F.Field.element g.F.Field.ZERO c.loop-p.right c.loop-p.invariant.right_elements)
    (reduced_at g.F.Field.element g.F.Field.sum g.F.Field.product g.F.Field.ZERO g.F.Field.ONE g.met.F.Field.laws c.args.m.now.rows c.loop-p.p c.args.m.now.rows (entry g.F.Field.ZERO c.args.m.now) (entry g.F.Field.ZERO c.loop-p.work) (entry g.F.Field.ZERO c.loop-p.right) all c.loop-p.invariant.reduced)))

pub returns-clause-regular : goal.returns-clause-regular
returns-clause-regular g c = λ s. s.apart (not_singular g.F.Field.element g.F.Field.sum g.F.Field.product g.F.Field.ZERO g.F.Field.ONE g.met.F.Field.laws c.args.m.now.rows (entry g.F.Field.ZERO c.args.m.now) (entry g.F.Field.ZERO c.in_ok-made.made)
    (elements_by_row g.F.Field.element g.F.Field.ZERO c.args.m.now c.rows-size.ensures.matrix.elements)
    (elements_by_row g.F.Field.element g.F.Field.ZERO c.in_ok-made.made c.in_ok-made.ensures.elements)
    (as_squares g.F.Field.sum g.F.Field.product g.F.Field.ZERO g.F.Field.ONE c.args.m.now c.in_ok-made.made (returns-clause-inverse g c)) s.row s.elements s.gone s.place s.within)

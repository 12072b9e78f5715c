use Rattle.std.proofs.Common.{arith, ◌∙◌}
use Rattle.elim.proofs.Clearing.{clearing_passed, clearing_more, set_at}
use Rattle.elim.specs.Grid.{entry}
use Rattle.elim.proofs.Entries.{elements_by_row}
use Rattle.elim.proofs.eliminate.clear.Goals as goal
use Rattle.elim.proofs.eliminate.clear.Goals.{then-i-p, else-i-p}

pub loop-i-preserved : goal.loop-i-preserved
loop-i-preserved g c =
    elim c.if-i-p.branch [
      | then-i-p w ↦ rw (w.work-is, w.right-is) (record {
        work = record { rows = w.add_row.ensures.shape.rows ∙ c.loop-i.invariant.work.rows; cols = w.add_row.ensures.shape.cols ∙ c.loop-i.invariant.work.cols };
        right = record { rows = w.add_row-then-i-p.ensures.shape.rows ∙ c.loop-i.invariant.right.rows; cols = w.add_row-then-i-p.ensures.shape.cols ∙ c.loop-i.invariant.right.cols };
        work_elements = w.add_row.ensures.elements;
        right_elements = w.add_row-then-i-p.ensures.elements;
        cleared = clearing_more g.F.Field.element g.F.Field.sum g.F.Field.product g.F.Field.ZERO g.F.Field.ONE g.met.F.Field.laws
            c.args.work.now.rows c.args.p c.loop-i.i w.get-c.result
            (entry g.F.Field.ZERO c.args.work.now) (entry g.F.Field.ZERO c.args.right.now)
            (entry g.F.Field.ZERO c.loop-i.work) (entry g.F.Field.ZERO c.loop-i.right)
            (entry g.F.Field.ZERO w.add_row.new.self) (entry g.F.Field.ZERO w.add_row-then-i-p.new.self)
            c.requires.row (omega arith) w.if-i-p.true w.get-c.ensures.value
            (elements_by_row g.F.Field.element g.F.Field.ZERO c.loop-i.work c.loop-i.invariant.work_elements)
            (elements_by_row g.F.Field.element g.F.Field.ZERO c.loop-i.right c.loop-i.invariant.right_elements)
            (elements_by_row g.F.Field.element g.F.Field.ZERO w.add_row.new.self w.add_row.ensures.elements)
            (elements_by_row g.F.Field.element g.F.Field.ZERO w.add_row-then-i-p.new.self w.add_row-then-i-p.ensures.elements)
            (set_at c.loop-i.i _ c.loop-i.work.rows c.loop-i.work.cols c.args.work.now.rows _ _ c.loop-i.invariant.work.rows c.loop-i.invariant.work.cols w.add_row.ensures.entries)
            (set_at c.loop-i.i _ c.loop-i.right.rows c.loop-i.right.cols c.args.work.now.rows _ _ c.loop-i.invariant.right.rows c.loop-i.invariant.right.cols w.add_row-then-i-p.ensures.entries)
            c.loop-i.invariant.cleared;
      })
      | else-i-p w ↦ rw (w.work-is, w.right-is) (record {
        work = c.loop-i.invariant.work;
        right = c.loop-i.invariant.right;
        work_elements = c.loop-i.invariant.work_elements;
        right_elements = c.loop-i.invariant.right_elements;
        cleared = clearing_passed g.F.Field.element g.F.Field.sum g.F.Field.product g.F.Field.ZERO g.F.Field.ONE g.met.F.Field.laws
            c.args.work.now.rows c.args.p c.loop-i.i
            (entry g.F.Field.ZERO c.args.work.now) (entry g.F.Field.ZERO c.args.right.now)
            (entry g.F.Field.ZERO c.loop-i.work) (entry g.F.Field.ZERO c.loop-i.right)
            w.if-i-p.false c.loop-i.invariant.cleared;
      })
    ]

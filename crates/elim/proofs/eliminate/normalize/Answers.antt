use Rattle.std.proofs.Common.{◌∙◌}
use Rattle.elim.proofs.Clearing.{normal, swapped_at, set_at}
use Rattle.elim.specs.Grid.{entry}
use Rattle.elim.proofs.Entries.{elements_by_row}
use Rattle.elim.proofs.eliminate.normalize.Goals as goal

pub returns : goal.returns
returns g c =
    let all = normal g.F.Field.element g.F.Field.sum g.F.Field.product g.F.Field.ZERO g.F.Field.ONE g.met.F.Field.laws
    c.args.work.now.rows c.args.p c.args.q c.args.inverse
    (entry g.F.Field.ZERO c.args.work.now) (entry g.F.Field.ZERO c.args.right.now)
    (entry g.F.Field.ZERO c.swap_rows.new.self) (entry g.F.Field.ZERO c.swap_rows-2.new.self)
    (entry g.F.Field.ZERO c.scale_row.new.self) (entry g.F.Field.ZERO c.scale_row-2.new.self)
    c.requires.below c.requires.row c.requires.fits c.requires.inverse
    (elements_by_row g.F.Field.element g.F.Field.ZERO c.args.work.now c.requires.work_elements)
    (elements_by_row g.F.Field.element g.F.Field.ZERO c.swap_rows.new.self c.swap_rows.ensures.elements)
    (elements_by_row g.F.Field.element g.F.Field.ZERO c.swap_rows-2.new.self c.swap_rows-2.ensures.elements)
    (elements_by_row g.F.Field.element g.F.Field.ZERO c.scale_row.new.self c.scale_row.ensures.elements)
    (elements_by_row g.F.Field.element g.F.Field.ZERO c.scale_row-2.new.self c.scale_row-2.ensures.elements)
    (swapped_at c.args.p c.args.q c.args.work.now.rows c.args.work.now.cols c.args.work.now.rows _ _ c.requires.work.rows c.requires.work.cols c.swap_rows.ensures.entries)
    (swapped_at c.args.p c.args.q c.args.right.now.rows c.args.right.now.cols c.args.work.now.rows _ _ c.requires.right.rows c.requires.right.cols c.swap_rows-2.ensures.entries)
    (set_at c.args.p _ c.swap_rows.new.self.rows c.swap_rows.new.self.cols c.args.work.now.rows _ _ (c.swap_rows.ensures.shape.rows) (c.swap_rows.ensures.shape.cols ∙ c.requires.work.cols) c.scale_row.ensures.entries)
    (set_at c.args.p _ c.swap_rows-2.new.self.rows c.swap_rows-2.new.self.cols c.args.work.now.rows _ _ (c.swap_rows-2.ensures.shape.rows ∙ c.requires.right.rows) (c.swap_rows-2.ensures.shape.cols ∙ c.requires.right.cols) c.scale_row-2.ensures.entries) in
    record {
      work = record { rows = c.scale_row.ensures.shape.rows ∙ c.swap_rows.ensures.shape.rows ∙ c.requires.work.rows; cols = c.scale_row.ensures.shape.cols ∙ c.swap_rows.ensures.shape.cols ∙ c.requires.work.cols };
      right = record { rows = c.scale_row-2.ensures.shape.rows ∙ c.swap_rows-2.ensures.shape.rows ∙ c.requires.right.rows; cols = c.scale_row-2.ensures.shape.cols ∙ c.swap_rows-2.ensures.shape.cols ∙ c.requires.right.cols };
      work_elements = c.scale_row.ensures.elements;
      right_elements = c.scale_row-2.ensures.elements;
      same = all.equal;
      kept = all.kept;
      one = all.here;
    }

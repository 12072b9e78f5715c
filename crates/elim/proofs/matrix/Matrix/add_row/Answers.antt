use Rattle.std.proofs.Common.{◌*◌, length, refl, sym, ap, ◌∙◌}
use Rattle.elim.proofs.Places.{added_row, added_elements}
use Rattle.poly.proofs.Lists.{refill_whole}
use Rattle.elim.proofs.matrix.Matrix.add_row.Goals as goal

pub invariant_of-self : goal.invariant_of-self
invariant_of-self g c =
    let whole = refill_whole c.self.inside.entries.len c.self.inside.entries.items c.add_scaled_rows.new.entries (c.add_scaled_rows.ensures.length ∙ ap length c.deref_mut.ensures.value ∙ sym c.self.inside.entries.ok.0) in
    rw whole (record {
      some_rows = c.self.invariant.some_rows;
      some_cols = c.self.invariant.some_cols;
      few_rows = c.self.invariant.few_rows;
      few_cols = c.self.invariant.few_cols;
      whole = c.add_scaled_rows.ensures.length ∙ ap length c.deref_mut.ensures.value ∙ c.self.invariant.whole;
      elements = record {
        at = added_elements g.F.Field.element g.F.Field.sum g.F.Field.product g.F.Field.ZERO g.F.Field.ONE g.met.F.Field.laws c.args.c (c.args.r * c.self.inside.cols) c.self.inside.cols (c.args.p * c.self.inside.cols) c.self.inside.entries.items c.add_scaled_rows.new.entries c.requires.scale c.self.invariant.elements.at
            (rw c.deref_mut.ensures.value at c.add_scaled_rows.ensures.here) (rw c.deref_mut.ensures.value at c.add_scaled_rows.ensures.before) (rw c.deref_mut.ensures.value at c.add_scaled_rows.ensures.after);
      };
    })

pub returns : goal.returns
returns g c =
    let whole = refill_whole c.self.inside.entries.len c.self.inside.entries.items c.add_scaled_rows.new.entries (c.add_scaled_rows.ensures.length ∙ ap length c.deref_mut.ensures.value ∙ sym c.self.inside.entries.ok.0) in
    rw (← c.self.view_is, whole) (record {
      shape = record { rows = refl; cols = refl };
      entries = added_row g.F.Field.sum g.F.Field.product g.F.Field.ZERO c.args.c c.self.inside.rows c.self.inside.cols c.args.r c.args.p c.self.inside.entries.items c.add_scaled_rows.new.entries
          (rw c.deref_mut.ensures.value at c.add_scaled_rows.ensures.here) (rw c.deref_mut.ensures.value at c.add_scaled_rows.ensures.before) (rw c.deref_mut.ensures.value at c.add_scaled_rows.ensures.after);
      elements = record {
        at = added_elements g.F.Field.element g.F.Field.sum g.F.Field.product g.F.Field.ZERO g.F.Field.ONE g.met.F.Field.laws c.args.c (c.args.r * c.self.inside.cols) c.self.inside.cols (c.args.p * c.self.inside.cols) c.self.inside.entries.items c.add_scaled_rows.new.entries c.requires.scale c.self.invariant.elements.at
            (rw c.deref_mut.ensures.value at c.add_scaled_rows.ensures.here) (rw c.deref_mut.ensures.value at c.add_scaled_rows.ensures.before) (rw c.deref_mut.ensures.value at c.add_scaled_rows.ensures.after);
      };
    })

use Rattle.std.proofs.Common.{◌≡◌, ◌+◌, ◌*◌, ◌<◌, ◌≤◌, ℕ, length, get_or, refl, sym, ap, ◌∙◌, arith}
use Rattle.gf256.proofs.RowPlaces.{row_ends}
use Rattle.elim.proofs.Places.{row_added, row_added_elements, part_at, part_length}
use Rattle.poly.proofs.Lists.{refill_whole}
use Rattle.elim.proofs.matrix.Matrix.add_row_of.Goals as goal

pub invariant_of-self : goal.invariant_of-self
invariant_of-self g c =
    let none = g.F.Field.ZERO in
    let n : ℕ = c.other.inside.cols in
    let from : ℕ = c.args.p * c.other.inside.cols in
    let cols : c.other.inside.cols ≡ c.self.inside.cols = ap (λ v. v.cols) c.other.view_is ∙ c.requires.columns.0 ∙ sym (ap (λ v. v.cols) c.self.view_is) in
    let rows : c.args.p < c.other.inside.rows = omega (arith, ap (λ v. v.rows) c.other.view_is, c.requires.other) in
    let ends = row_ends c.args.p c.other.inside.rows c.other.inside.cols rows in
    let inside : c.args.p * c.other.inside.cols + c.other.inside.cols ≤ length c.deref.result.now = omega (arith, ends, c.other.invariant.whole, ap length c.deref.ensures.value) in
    let long = part_length from n c.deref.result.now inside ∙ cols in
    let row : ℕ → _ = λ (j : ℕ). get_or c.other.inside.entries.items (from + j) none in
    let here = λ (j : ℕ) (lj : j < c.self.inside.cols).
    c.add_at.ensures.here j (omega (arith, lj, long))
    ∙ ap (λ v. g.F.Field.sum (get_or c.deref_mut.result.now (c.args.r * c.self.inside.cols + j) none) (g.F.Field.product c.args.c v)) (part_at none from n j c.deref.result.now (omega (arith, lj, cols)) ∙ ap (λ l. get_or l (from + j) none) c.deref.ensures.value) in
    let before = c.add_at.ensures.before in
    let after = λ (i : ℕ) (le : c.args.r * c.self.inside.cols + c.self.inside.cols ≤ i). c.add_at.ensures.after i (omega (arith, le, long)) in
    let whole = refill_whole c.self.inside.entries.len c.self.inside.entries.items c.add_at.new.entries (c.add_at.ensures.length ∙ ap length c.deref_mut.ensures.value ∙ sym c.self.inside.entries.ok.0) in
    let elements = row_added_elements g.F.Field.element g.F.Field.sum g.F.Field.product none g.F.Field.ONE g.met.F.Field.laws c.args.c (c.args.r * c.self.inside.cols) c.self.inside.cols row c.self.inside.entries.items c.add_at.new.entries c.requires.columns.1 c.self.invariant.elements.at (λ j. c.other.invariant.elements.at (from + j))
    (rw c.deref_mut.ensures.value at here) (rw c.deref_mut.ensures.value at before) (rw c.deref_mut.ensures.value at after) in
    rw whole (record {
      some_rows = c.self.invariant.some_rows;
      some_cols = c.self.invariant.some_cols;
      few_rows = c.self.invariant.few_rows;
      few_cols = c.self.invariant.few_cols;
      whole = c.add_at.ensures.length ∙ ap length c.deref_mut.ensures.value ∙ c.self.invariant.whole;
      elements = record { at = elements };
    })

pub returns : goal.returns
returns g c =
    let none = g.F.Field.ZERO in
    let n : ℕ = c.other.inside.cols in
    let from : ℕ = c.args.p * c.other.inside.cols in
    let cols : c.other.inside.cols ≡ c.self.inside.cols = ap (λ v. v.cols) c.other.view_is ∙ c.requires.columns.0 ∙ sym (ap (λ v. v.cols) c.self.view_is) in
    let rows : c.args.p < c.other.inside.rows = omega (arith, ap (λ v. v.rows) c.other.view_is, c.requires.other) in
    let ends = row_ends c.args.p c.other.inside.rows c.other.inside.cols rows in
    let inside : c.args.p * c.other.inside.cols + c.other.inside.cols ≤ length c.deref.result.now = omega (arith, ends, c.other.invariant.whole, ap length c.deref.ensures.value) in
    let long = part_length from n c.deref.result.now inside ∙ cols in
    let row : ℕ → _ = λ (j : ℕ). get_or c.other.inside.entries.items (from + j) none in
    let here = λ (j : ℕ) (lj : j < c.self.inside.cols).
    c.add_at.ensures.here j (omega (arith, lj, long))
    ∙ ap (λ v. g.F.Field.sum (get_or c.deref_mut.result.now (c.args.r * c.self.inside.cols + j) none) (g.F.Field.product c.args.c v)) (part_at none from n j c.deref.result.now (omega (arith, lj, cols)) ∙ ap (λ l. get_or l (from + j) none) c.deref.ensures.value) in
    let before = c.add_at.ensures.before in
    let after = λ (i : ℕ) (le : c.args.r * c.self.inside.cols + c.self.inside.cols ≤ i). c.add_at.ensures.after i (omega (arith, le, long)) in
    let whole = refill_whole c.self.inside.entries.len c.self.inside.entries.items c.add_at.new.entries (c.add_at.ensures.length ∙ ap length c.deref_mut.ensures.value ∙ sym c.self.inside.entries.ok.0) in
    let elements = row_added_elements g.F.Field.element g.F.Field.sum g.F.Field.product none g.F.Field.ONE g.met.F.Field.laws c.args.c (c.args.r * c.self.inside.cols) c.self.inside.cols row c.self.inside.entries.items c.add_at.new.entries c.requires.columns.1 c.self.invariant.elements.at (λ j. c.other.invariant.elements.at (from + j))
    (rw c.deref_mut.ensures.value at here) (rw c.deref_mut.ensures.value at before) (rw c.deref_mut.ensures.value at after) in
    rw (← c.self.view_is, ← c.other.view_is, whole) (record {
      shape = record { rows = refl; cols = refl };
      entries = row_added g.F.Field.sum g.F.Field.product none c.args.c c.self.inside.rows c.self.inside.cols c.args.r row c.self.inside.entries.items c.add_at.new.entries
          (rw c.deref_mut.ensures.value at here) (rw c.deref_mut.ensures.value at before) (rw c.deref_mut.ensures.value at after);
      elements = record { at = elements };
    })

use Rattle.std.proofs.Common.{◌≡◌, ◌≤◌, ℕ, ◌+◌, ◌-◌, ◌*◌, length, get_or, ap, sym, ◌∙◌, inl, inr, arith}
use Rattle.std.proofs.lemmas.Bool.{cases_lt}
use Rattle.std.proofs.lemmas.Grind.{common_steps}
use Rattle.gf256.proofs.RowPlaces.{rows_fit, rows_apart}
use Rattle.partition.specs.Fti.{source_count, encoding_count}
use Rattle.block_code.specs.Columns.{AreColumns}
use Rattle.encoder.proofs.EncodedRows.{source_row, repair_row, part_column, length-part}
use Rattle.encoder.proofs.rows.encoding_symbols.Goals.{then-copied-gt0, else-copied-gt0}
use Rattle.encoder.proofs.SourcePlaces.{row_from}
use Rattle.encoder.proofs.rows.encoding_symbols.Goals as goal

pub combine-requires-clause-coefficients : goal.combine-requires-clause-coefficients
combine-requires-clause-coefficients c =
    let code = c.requires.code in
    let g = c.args.code.now.matrix in
    let laid_out : AreColumns c.args.code.now.matrix c.deref.result.now = rw c.deref.ensures.value c.args.code.now.laid_out in
    let k = c.k-k.ensures.value in
    let wide = laid_out.count ∙ ap (λ (v : ℕ). v * c.args.code.now.matrix.rows) code.cols ∙ ap (λ (v : ℕ). encoding_count c.args.fti.now c.args.b * v) (code.rows ∙ sym k) in
    let room = rows_fit 0 (c.args.first + c.args.count) (encoding_count c.args.fti.now c.args.b) c.k-k.result (omega arith) in
    length-part c.deref.result.now c.k-k.result c.args.first c.min-copied.result c.args.count (omega arith) (omega (arith, wide, room))
    ∙ ap (λ (v : ℕ). (c.args.count - c.min-copied.result) * v) k

pub combine-requires-clause-room : goal.combine-requires-clause-room
combine-requires-clause-room c =
    let size = c.from-size.ensures ∙ c.symbol_length.ensures.value in
    let at : c.min-copied.result * c.from-size.result ≡ c.min-copied.result * c.args.fti.now.symbol_length = ap (λ (v : ℕ). c.min-copied.result * v) size in
    let e : c.min-copied.result + (c.args.count - c.min-copied.result) ≡ c.args.count = omega arith in
    let split = rows_apart c.min-copied.result (c.args.count - c.min-copied.result) c.args.fti.now.symbol_length in
    let whole = ap (λ (v : ℕ). v * c.args.fti.now.symbol_length) e in
    omega (arith, at, split, whole, c.split_at_mut-source_rows.ensures.back_len, c.requires.room)

pub returns-clause-symbols : goal.returns-clause-symbols
returns-clause-symbols c = λ object bytes are r lr.
    let f = c.args.fti.now in
    let code = c.requires.code in
    let g = c.args.code.now.matrix in
    let laid_out : AreColumns c.args.code.now.matrix c.deref.result.now = rw c.deref.ensures.value c.args.code.now.laid_out in
    let m : ℕ = c.min-copied.result in
    let k = c.k-k.ensures.value in
    let size = c.from-size.ensures ∙ c.symbol_length.ensures.value in
    let at : c.min-copied.result * c.from-size.result ≡ c.min-copied.result * f.symbol_length = ap (λ (v : ℕ). c.min-copied.result * v) size in
    let most : c.min-copied.result ≤ c.args.count = omega arith in
    let front : length c.if-copied-gt0.source_rows ≡ c.min-copied.result * f.symbol_length = c.if-copied-gt0.auto.source_rows ∙ c.split_at_mut-source_rows.ensures.front_len ∙ at in
    let e : c.min-copied.result + (c.args.count - c.min-copied.result) ≡ c.args.count = omega arith in
    let split = rows_apart c.min-copied.result (c.args.count - c.min-copied.result) f.symbol_length in
    let whole = ap (λ (v : ℕ). v * f.symbol_length) e in
    let back : length c.combine.new.out ≡ (c.args.count - c.min-copied.result) * f.symbol_length =
    omega (arith, at, split, whole, c.split_at_mut-source_rows.ensures.back_len, c.requires.room, c.combine.ensures.len) in
    let wide = laid_out.count ∙ ap (λ (v : ℕ). v * c.args.code.now.matrix.rows) code.cols ∙ ap (λ (v : ℕ). encoding_count f c.args.b * v) code.rows in
    let room = rows_fit 0 (c.args.first + c.args.count) (encoding_count f c.args.b) (source_count f c.args.b) (omega arith) in
    let arrived_esis : (c.args.first + c.args.count) * source_count f c.args.b ≤ length c.deref.result.now = omega (arith, wide, room) in
    elim (cases_lt r m) [
      | inl lt ↦ elim c.if-copied-gt0.branch [
        | then-copied-gt0 w ↦
            source_row f object c.args.b g code bytes c.requires.block
            c.if-copied-gt0.source_rows c.combine.new.out c.args.first m c.args.count front back most
            w.bytes_from.result.now r lt (omega arith)
            (λ p lp. ap (λ l. get_or l p 0) w.source_rows-is ∙ w.copy_padded.ensures p (omega arith))
            (λ i y li ly. w.bytes_from.ensures (i * f.symbol_length + y) ∙ row_from c.args.sources.now c.args.first c.from-size.result f.symbol_length i y size ∙ are (c.args.first + i) y (omega (arith, li)) ly)
        | else-copied-gt0 w ↦ absurd (omega arith)
      ]
      | inr ge ↦
          repair_row f object c.args.b g code bytes c.requires.block
          c.if-copied-gt0.source_rows c.combine.new.out c.args.first m c.args.count front back most
          c.deref.result.now _ r ge lr c.requires.within laid_out.small laid_out
          (λ i li. part_column c.deref.result.now (source_count f c.args.b) c.k-k.result c.args.first m c.args.count r i k ge lr li arrived_esis)
          (λ y hy. c.combine.ensures.sums object are (r - m) y (omega arith) hy)
    ]

pub slice_bounds-coefficients-end : goal.slice_bounds-coefficients-end
slice_bounds-coefficients-end c = grind (arith, common_steps) steps 2000000

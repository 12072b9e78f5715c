use Rattle.std.proofs.Common.{◌≡◌, ◌≤◌, ◌∙◌, ◌+◌, ◌*◌, ℕ, List, length, get_or, arith, ap, sym}
use Rattle.partition.specs.Fti.{source_count, source_place}
use Rattle.block_code.proofs.RowAdding.{products}
use Rattle.block_recovery.proofs.RowPlaces.{zero_behind, other_behind, row_and_column}
use Rattle.block_recovery.proofs.blocks.are_padded.Goals as goal

pub returns-clause-zero : goal.returns-clause-zero
returns-clause-zero c = λ ok i y li ly past.
    let f = c.args.fti.now in
    let rows = c.args.rows.now in
    ap (λ (s : ℕ). get_or rows.bytes.items (i * s + y) 0) c.requires.sizes.bytes_are
    ∙ ap (λ (l : List ℕ). get_or l (i * f.symbol_length + y) 0) (sym c.deref.ensures.value)
    ∙ zero_behind c.deref.result.now c.block_bytes.result (c.is_zero.ensures.zero ok) (i * f.symbol_length + y)
    (omega (arith, c.block_bytes.ensures.value, past))

pub returns-clause-other : goal.returns-clause-other
returns-clause-other c = λ no_zero.
    let f = c.args.fti.now in
    let rows = c.args.rows.now in
    let w = c.is_zero.ensures.other no_zero in
    let o = other_behind c.deref.result.now c.block_bytes.result w.0 w.1 w.2 in
    let sized : length c.deref.result.now ≡ source_count c.args.fti.now c.args.b * c.args.fti.now.symbol_length = ap length c.deref.ensures.value ∙ rows.whole ∙ products _ _ _ _ c.requires.sizes.rows_are c.requires.sizes.bytes_are in
    let p = row_and_column (c.block_bytes.result + w.0) (source_count f c.args.b) f.symbol_length c.block_bytes.ensures.valid.some_symbol (omega (arith, o.0, sized)) in
    let past : c.args.fti.now.transfer_length ≤ source_place c.args.fti.now c.args.b p.0 p.1 = omega (arith, p.4, o.0, sized, c.block_bytes.ensures.value) in (
      p.0,
      p.1,
      p.2,
      p.3,
      past,
      λ z.
          o.1 (ap (λ (q : ℕ). get_or c.deref.result.now q 0) (sym p.4)
          ∙ ap (λ (l : List ℕ). get_or l (p.0 * f.symbol_length + p.1) 0) c.deref.ensures.value
          ∙ ap (λ (s : ℕ). get_or rows.bytes.items (p.0 * s + p.1) 0) (sym c.requires.sizes.bytes_are) ∙ z),
    )

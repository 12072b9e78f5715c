use Rattle.std.proofs.Common.{◌≡◌, ◌+◌, ◌*◌, ◌<◌, ◌∙◌, ℕ, List, length, ap, arith}
use Rattle.std.specs.Prelude.{slice_index}
use Rattle.gf256.specs.Arithmetic.{sum_of, product}
use Rattle.gf256.specs.Sums.{row_times}
use Rattle.block_recovery.specs.Rows.{byte_in}
use Rattle.block_recovery.specs.Blocks.{bytes_of_esi}
use Rattle.block_recovery.proofs.Erased.{sum_with_none}
use Rattle.block_recovery.proofs.Solved.{solved}
use Rattle.block_recovery.proofs.recovering.solve.Goals as goal

pub returns-clause-solved : goal.returns-clause-solved
returns-clause-solved c =
    let b = c.args.block.now in
    let g = b.code.now.matrix in
    let some : 0 < length c.args.missing.now = grind (arith, c.if-is_empty.false, c.is_empty.ensures) in
    let by = c.in_ok-recovery.ensures.recovering in
    let filled = c.put_rows.new.rows in
    let k : filled.count ≡ g.rows = c.put_rows.ensures.sizes.rows_same ∙ c.requires.rows.rows_are in
    let size : filled.size ≡ b.size = c.put_rows.ensures.sizes.bytes_same ∙ c.requires.rows.bytes_are in
    solved (bytes_of_esi b.received.now) b.size g b.matrix c.requires.code c.args.missing.now c.args.repair.now (c.requires.erasures some)
    c.in_ok-recovery.recovery.coefficients.items by
    (byte_in c.args.rows.now) (byte_in filled) (byte_in c.put_rows-2.new.rows) (byte_in c.in_ok-symbols.symbols)
    c.are_bytes.ensures c.are_bytes-3.ensures c.are_bytes-4.ensures c.are_bytes-2.ensures
    c.in_ok-symbols.ensures.symbols c.requires.empty
    (λ a y la ly. c.put_rows.ensures.here a y la (omega (arith, ly, c.requires.rows.bytes_are)))
    (λ i y apart ly. c.put_rows.ensures.elsewhere i y apart (omega (arith, ly, c.requires.rows.bytes_are)))
    (λ a y la ly.
    c.put_rows-2.ensures.here a y la (omega (arith, ly, size))
    ∙ c.add_products.ensures.sums a y (omega (arith, la, c.in_ok-solved.ensures.sizes.rows_are)) (omega (arith, ly, c.in_ok-solved.ensures.sizes.bytes_are))
    ∙ ap (λ (v : ℕ). sum_of v (row_times sum_of product 0 (λ i. slice_index c.deref.result.now (a * filled.count + i)) (byte_in filled) filled.count y)) (c.in_ok-solved.ensures.zero a y)
    ∙ sum_with_none (row_times sum_of product 0 (λ i. slice_index c.deref.result.now (a * filled.count + i)) (byte_in filled) filled.count y)
    ∙ ap (λ (n : ℕ). row_times sum_of product 0 (λ i. slice_index c.deref.result.now (a * n + i)) (byte_in filled) n y) k
    ∙ ap (λ (l : List ℕ). row_times sum_of product 0 (λ i. slice_index l (a * g.rows + i)) (byte_in filled) g.rows y) c.deref.ensures.value)
    (λ i y apart ly. c.put_rows-2.ensures.elsewhere i y apart (omega (arith, ly, size)))

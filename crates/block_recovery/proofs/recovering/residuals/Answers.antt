use Rattle.std.proofs.Common.{◌+◌, ◌*◌, ◌∙◌, ℕ, List, ap, arith}
use Rattle.std.specs.Prelude.{slice_index}
use Rattle.lists.specs.Bytes.{IsByte}
use Rattle.gf256.specs.Arithmetic.{sum_of, product}
use Rattle.gf256.specs.Sums.{row_times}
use Rattle.elim.specs.Grid.{entry}
use Rattle.elim.proofs.Entries.{elements_by_row}
use Rattle.block_recovery.specs.Rows.{byte_in}
use Rattle.block_recovery.specs.Blocks.{bytes_of_esi, byte_of}
use Rattle.block_recovery.proofs.Erasing.{factors_changed}
use Rattle.block_recovery.proofs.recovering.residuals.Goals as goal

pub returns-clause-sums : goal.returns-clause-sums
returns-clause-sums c = λ m y lm ly.
    let b = c.args.block.now in
    let g = b.code.now.matrix in
    let rows = c.args.rows.now in
    let count = c.requires.rows.rows_are in
    let w = c.in_ok-coefficients.ensures in
    let coefficient : ℕ → ℕ = λ i. slice_index c.in_ok-coefficients.coefficients.items (m * g.rows + i) in
    c.add_products.ensures.sums m y (omega (arith, lm, c.in_ok-sums.ensures.sizes.rows_are)) (omega (arith, ly, c.in_ok-sums.ensures.sizes.bytes_are))
    ∙ ap (λ (v : ℕ). sum_of v (row_times sum_of product 0 (λ i. slice_index c.deref.result.now (m * rows.count + i)) (byte_in rows) rows.count y)) (c.in_ok-sums.ensures.symbols m y lm ly)
    ∙ ap (sum_of (byte_of (bytes_of_esi b.received.now (slice_index c.args.esis.now m)) y))
    (ap (λ (n : ℕ). row_times sum_of product 0 (λ i. slice_index c.deref.result.now (m * n + i)) (byte_in rows) n y) count
    ∙ ap (λ (l : List ℕ). row_times sum_of product 0 (λ i. slice_index l (m * g.rows + i)) (byte_in rows) g.rows y) c.deref.ensures.value
    ∙ factors_changed g.rows _ (λ i. byte_in rows i y) (λ i. entry 0 g i (slice_index c.args.esis.now m))
    (λ i li. let e = w.entries m i lm li in let small = elements_by_row IsByte 0 g b.matrix.elements i (slice_index c.args.esis.now m) in omega (arith, e, small)) (λ i. c.are_bytes.ensures i y)
    (λ i li. w.entries m i lm li))

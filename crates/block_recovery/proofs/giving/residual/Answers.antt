use Rattle.std.proofs.Common.{◌≡◌, ◌<◌, ◌+◌, ◌-◌, ◌*◌, ◌∙◌, ℕ, List, take, drop, ap, arith, get_or-take}
use Rattle.std.specs.Prelude.{slice_index}
use Rattle.std.proofs.lemmas.List.{get_or-drop}
use Rattle.gf256.specs.Arithmetic.{sum_of, product}
use Rattle.gf256.specs.Sums.{row_times}
use Rattle.elim.specs.Grid.{Grid, entry}
use Rattle.block_code.specs.Columns.{AreColumns}
use Rattle.block_recovery.specs.Rows.{byte_in}
use Rattle.block_recovery.proofs.Erasing.{factors_changed}
use Rattle.block_recovery.proofs.giving.residual.Goals as goal

-- the coefficients of an encoding symbol
coefficient : (g : Grid ℕ) (columns slice : List ℕ) → AreColumns g columns → (j k from i : ℕ) → j < g.cols → k ≡ g.rows → from ≡ j * k → slice ≡ columns → i < g.rows
    → slice_index (take (from + k - from) (drop from slice)) (0 * k + i) ≡ entry 0 g i j
coefficient g columns slice laid_out j k from i lj count is same li =
    let start : 0 * k + i ≡ i = omega arith in
    let inside : i < from + k - from = omega (arith, li, count) in
    let place : from + i ≡ j * g.rows + i = ap (λ (n : ℕ). n + i) (is ∙ ap (λ (n : ℕ). j * n) count) in
    ap (slice_index (take (from + k - from) (drop from slice))) start
    ∙ get_or-take (from + k - from) (drop from slice) i 0 inside ∙ get_or-drop from slice i 0
    ∙ ap (λ (l : List ℕ). slice_index l (from + i)) same ∙ ap (slice_index columns) place
    ∙ laid_out.entries i j li lj

pub returns-clause-sums : goal.returns-clause-sums
returns-clause-sums c = λ y ly.
    let g = c.args.code.now.matrix in
    let rows = c.args.rows.now in
    let small : (i : ℕ) → i < c.args.code.now.matrix.rows → entry 0 c.args.code.now.matrix i c.args.esi < 256 =
    λ i li. (let e = c.args.code.now.laid_out.entries i c.args.esi li c.requires.esi in let byte = c.args.code.now.laid_out.small (c.args.esi * g.rows + i) in omega (arith, e, byte)) in
    let same = λ (i : ℕ) (li : i < c.args.code.now.matrix.rows).
    coefficient g c.args.code.now.columns.items c.deref.result.now c.args.code.now.laid_out c.args.esi rows.count (c.from.result * rows.count) i c.requires.esi c.requires.count (ap (λ (n : ℕ). n * rows.count) c.from.ensures) c.deref.ensures.value li in
    let bytes : List ℕ = take (c.from.result * rows.count + rows.count - c.from.result * rows.count) (drop (c.from.result * rows.count) c.deref.result.now) in
    c.add_products.ensures.sums 0 y (omega (arith, c.put.ensures.sizes.rows_same, c.in_ok-sum.ensures.sizes.rows_are)) (omega (arith, ly, c.put.ensures.sizes.bytes_same, c.in_ok-sum.ensures.sizes.bytes_are))
    ∙ ap (λ (v : ℕ). sum_of v (row_times sum_of product 0 (λ i. slice_index bytes (0 * rows.count + i)) (byte_in rows) rows.count y)) (c.put.ensures.here y (omega (arith, ly, c.in_ok-sum.ensures.sizes.bytes_are)))
    ∙ ap (sum_of (slice_index c.args.symbol.now y))
    (ap (λ (n : ℕ). row_times sum_of product 0 (λ i. slice_index bytes (0 * rows.count + i)) (byte_in rows) n y) c.requires.count
    ∙ factors_changed g.rows (λ i. slice_index bytes (0 * rows.count + i)) (λ i. byte_in rows i y) (λ i. entry 0 g i c.args.esi)
    (λ i li. let e = same i li in let byte = small i li in omega (arith, e, byte)) (λ i. c.are_bytes.ensures i y) same)

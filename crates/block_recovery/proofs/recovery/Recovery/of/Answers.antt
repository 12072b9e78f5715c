use Rattle.std.proofs.Common.{◌≡◌, ◌<◌, ◌+◌, ◌*◌, ◌++◌, ℕ, List, length, take, drop, ap, sym, arith, rules, ◌∙◌}
use Rattle.std.proofs.lemmas.Grind.{common_steps}
use Rattle.std.specs.Prelude.{slice_index}
use Rattle.lists.specs.Bytes.{IsByte}
use Rattle.gf256.specs.Arithmetic.{sum_of, product}
use Rattle.gf256.specs.Sums.{row_times}
use Rattle.elim.specs.Grid.{Grid, entry, HasElements, HasShape}
use Rattle.elim.proofs.Entries.{elements_by_row}
use Rattle.block_code.specs.Columns.{AreColumns}
use Rattle.block_code.proofs.RowAdding.{take_front}
use Rattle.block_recovery.specs.Rows.{byte_in}
use Rattle.block_recovery.proofs.Erased.{sum_with_none}
use Rattle.block_recovery.proofs.Erasing.{factors_changed}
use Rattle.block_recovery.proofs.recovery.Recovery.of.Goals as goal

-- a sum by the columns of a matrix
by_columns : (w : Grid ℕ) (n : ℕ) → HasShape n n w → HasElements IsByte 0 w → (columns : List ℕ) → AreColumns w columns → (residual : ℕ → ℕ → ℕ) → ((q i : ℕ) → residual q i < 256)
    → (a i : ℕ) → a < n → row_times sum_of product 0 (λ q. slice_index columns (a * n + q)) residual n i ≡ row_times sum_of product 0 (λ q. residual q i) (entry 0 w) n a
by_columns w n shape elements columns are residual small a i la =
    let same : (q : ℕ) → q < n → slice_index columns (a * n + q) ≡ entry 0 w q a =
    λ q lq. ap (λ (m : ℕ). slice_index columns (a * m + q)) (sym shape.rows) ∙ are.entries q a (omega (arith, lq, shape.rows)) (omega (arith, la, shape.cols)) in
    factors_changed n (λ q. slice_index columns (a * n + q)) (λ q. residual q i) (λ q. entry 0 w q a)
    (λ q lq. let e = same q lq in let b = elements_by_row IsByte 0 w elements q a in omega (arith, e, b)) (λ q. small q i) same

pub returns : goal.returns
returns c =
    let g = c.args.code.now.matrix in
    let n : ℕ = length c.args.missing.now in
    let residuals = c.in_ok-residuals.residuals in
    let elements : HasElements IsByte 0 c.in_ok-matrix.matrix = search (rules, c.matrix.view_is) in
    let k : c.rows-k.result ≡ g.rows = c.rows-k.ensures.value in
    let sums = c.add_products.new.outputs in
    let made_are : take c.in_ok-coefficients.coefficients.len (c.add_products.new.outputs ++ drop (length c.add_products.new.outputs) c.in_ok-coefficients.coefficients.items) ≡ c.add_products.new.outputs =
    take_front c.in_ok-coefficients.coefficients.len c.add_products.new.outputs _ (grind (arith, common_steps)) in
    record {
      k = k;
      missing_are = search rules;
      repair_are = search rules;
      recovering = record {
        few = omega (arith, residuals.few, c.in_ok-residuals.ensures.sizes.rows_are);
        matrix = c.in_ok-matrix.matrix;
        elements = elements;
        recovers = c.in_ok-matrix.ensures.recovers;
        residual = byte_in residuals;
        residuals = record {
          small = c.are_bytes.ensures;
          apart = c.in_ok-residuals.ensures.apart;
          own = c.in_ok-residuals.ensures.own;
        };
        count = ap length made_are ∙ grind (arith, common_steps, k);
        made = λ a i la li.
            ap (λ (l : List ℕ). slice_index l (a * g.rows + i)) made_are
            ∙ ap (λ (w : ℕ). slice_index c.add_products.new.outputs (a * w + i)) (sym k)
            ∙ c.add_products.ensures a i la (omega (arith, li, k))
            ∙ ap (λ (v : ℕ). sum_of v (row_times sum_of product 0 (λ q. slice_index c.deref.result.now (a * n + q)) (λ q y. slice_index c.deref-2.result.now (q * c.rows-k.result + y)) n i)) (let zero : slice_index c.deref_mut.result.now (a * c.rows-k.result + i) ≡ 0 = grind (arith, common_steps) in zero)
            ∙ sum_with_none (row_times sum_of product 0 (λ q. slice_index c.deref.result.now (a * n + q)) (λ q y. slice_index c.deref-2.result.now (q * c.rows-k.result + y)) n i)
            ∙ ap (λ (l : List ℕ). row_times sum_of product 0 (λ q. slice_index l (a * n + q)) (λ q y. slice_index c.deref-2.result.now (q * c.rows-k.result + y)) n i) c.deref.ensures.value
            ∙ ap (λ (l : List ℕ). row_times sum_of product 0 (λ q. slice_index c.in_ok-factors.factors.items (a * n + q)) (λ q y. slice_index l (q * c.rows-k.result + y)) n i) c.deref-2.ensures.value
            ∙ ap (λ (w : ℕ). row_times sum_of product 0 (λ q. slice_index c.in_ok-factors.factors.items (a * n + q)) (λ q y. slice_index residuals.bytes.items (q * w + y)) n i) (k ∙ sym c.in_ok-residuals.ensures.sizes.bytes_are)
            ∙ by_columns c.in_ok-matrix.matrix n c.in_ok-matrix.ensures.shape elements c.in_ok-factors.factors.items c.in_ok-factors.ensures (byte_in residuals) c.are_bytes.ensures a i la;
      };
    }

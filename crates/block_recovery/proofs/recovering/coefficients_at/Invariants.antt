use Rattle.std.proofs.Common.{◌≡◌, ◌<◌, ◌+◌, ◌*◌, ℕ, length, slice_index}
use Rattle.elim.specs.Grid.{entry}
use Rattle.block_recovery.proofs.recovering.coefficients_at.Given as goal

abbrev pub invariant-loop-m : goal.invariant-loop-m
invariant-loop-m l = record {
  count : length l.coefficients.items ≡ l.m * l.code.matrix.rows;
  entries : (m i : ℕ) → m < l.m → i < l.code.matrix.rows → slice_index l.coefficients.items (m * l.code.matrix.rows + i) ≡ entry 0 l.code.matrix i (slice_index l.esis m);
}

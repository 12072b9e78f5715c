use Rattle.std.proofs.Common.{◌≡◌, ◌<◌, ℕ, length, slice_index}
use Rattle.elim.specs.Grid.{entry}
use Rattle.elim.specs.Matrices.{identity_entry}
use Rattle.block_recovery.specs.Erasures.{IsApart}
use Rattle.block_recovery.specs.Rows.{byte_in, HasSizes}
use Rattle.block_recovery.proofs.recovery.residual_coefficients.Given as goal

abbrev pub invariant-loop-q : goal.invariant-loop-q
invariant-loop-q l = record {
  sizes : HasSizes (length l.missing) l.code.matrix.rows l.rows;
  room : length l.room.items ≡ l.code.matrix.rows;
  apart : (q i : ℕ) → q < l.q → i < l.code.matrix.rows → IsApart l.missing i → byte_in l.rows q i ≡ entry 0 l.code.matrix i (slice_index l.repair q);
  own : (q p : ℕ) → q < l.q → p < length l.missing → byte_in l.rows q (slice_index l.missing p) ≡ identity_entry 0 1 p q;
}

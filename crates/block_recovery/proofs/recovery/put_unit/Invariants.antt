use Rattle.std.proofs.Common.{◌≡◌, ◌≢◌, ◌<◌, ℕ, slice_index}
use Rattle.elim.specs.Matrices.{identity_entry}
use Rattle.block_recovery.proofs.recovery.put_unit.Given as goal

abbrev pub invariant-loop-a : goal.invariant-loop-a
invariant-loop-a l = record {
  here : (a : ℕ) → a < l.a → slice_index l.row (slice_index l.places a) ≡ identity_entry 0 1 a l.i;
  apart : (p : ℕ) → ((a : ℕ) → a < l.a → slice_index l.places a ≢ p) → slice_index l.row p ≡ slice_index l.initial.row p;
}

use Rattle.std.proofs.Common.{◌≡◌, ◌≢◌, ◌<◌, ℕ, slice_index}
use Rattle.block_recovery.specs.Rows.{byte_in, SameSizes}
use Rattle.block_recovery.proofs.recovering.put_rows.Given as goal

abbrev pub invariant-loop-a : goal.invariant-loop-a
invariant-loop-a l = record {
  sizes : SameSizes l.initial.rows l.rows;
  here : (a c : ℕ) → a < l.a → c < l.initial.rows.size → byte_in l.rows (slice_index l.places a) c ≡ byte_in l.others a c;
  elsewhere : (i c : ℕ) → ((a : ℕ) → a < l.a → slice_index l.places a ≢ i) → c < l.initial.rows.size → byte_in l.rows i c ≡ byte_in l.initial.rows i c;
}

use Rattle.std.specs.Prelude.{slice_index}
use Rattle.std.proofs.Common.{◌≢◌, ◌<◌, ℕ}
use Rattle.receiver.proofs.pending_block.place_of.Given as goal

abbrev pub invariant-loop-i : goal.invariant-loop-i
invariant-loop-i l = (m : ℕ) → m < l.i → slice_index l.esis m ≢ l.esi

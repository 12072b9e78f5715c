use Rattle.std.specs.Prelude.{is_some}
use Rattle.std.proofs.Common.{◌≡◌, ℕ, ◌<◌, length, take, List}
use Rattle.block_recovery.specs.Arrivals.{arrived_at, seen_at}
use Rattle.block_recovery.proofs.arrivals.seen_of.Given as goal

abbrev pub invariant-loop-arrival : goal.invariant-loop-arrival
invariant-loop-arrival g l = record {
  len : length l.seen ≡ 256;
  at : (held : g.row.S.Denot → List ℕ) (j : ℕ) → j < 256 → seen_at l.seen j ≡ is_some (arrived_at held (take l.arrival-index l.arrivals) j);
}

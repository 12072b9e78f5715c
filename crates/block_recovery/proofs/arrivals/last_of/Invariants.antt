use Rattle.std.specs.Prelude.{option_map, IfSome}
use Rattle.std.specs.List.{Contains}
use Rattle.std.proofs.Common.{◌≡◌, ℕ, List, take}
use Rattle.block_recovery.specs.Arrivals.{arrived_at}
use Rattle.block_recovery.proofs.arrivals.last_of.Given as goal

abbrev pub invariant-loop-arrival : goal.invariant-loop-arrival
invariant-loop-arrival g l = record {
  at : (held : g.row.S.Denot → List ℕ) → option_map held l.found ≡ arrived_at held (take l.arrival-index l.arrivals) l.esi;
  listed : IfSome l.found (λ s. Contains l.arrivals (record { esi = l.esi; symbol = s }));
}

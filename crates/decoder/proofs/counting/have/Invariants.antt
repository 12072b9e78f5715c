use Rattle.std.proofs.Common.{◌≡◌, ◌≤◌, ℕ, List, length}
use Rattle.std.specs.Prelude.{filter, is_some}
use Rattle.lists.specs.Below.{below}
use Rattle.block_recovery.specs.Received.{came_at}
use Rattle.decoder.proofs.counting.have.Given as goal

abbrev pub invariant-loop-j : goal.invariant-loop-j
invariant-loop-j g l = record {
  few : l.count ≤ l.j;
  counts : (held : g.row.S.Denot → List ℕ) → l.count ≡ length (filter (λ j. is_some (came_at held l.symbols l.b j)) (below l.j));
}

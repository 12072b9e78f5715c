use Rattle.std.proofs.Common.{◌≡◌, ◌<◌, ℕ, true}
use Rattle.receiver.specs.Holds.{has_solved}
use Rattle.receiver.proofs.store.Store.first_short.Given as goal

abbrev pub invariant-loop-b : goal.invariant-loop-b
invariant-loop-b l = (a : ℕ) → a < l.b → has_solved l.self a ≡ true

use Rattle.std.proofs.Common.{ℕ, List}
use Rattle.receiver.specs.Stands.{Stands}
use Rattle.examples.proofs.receiving.receive.Given as goal

-- the receiver stands for some list
abbrev pub invariant-loop-place : goal.invariant-loop-place
invariant-loop-place l = (taken : List (List ℕ)) × Stands l.receiver taken

use Rattle.std.proofs.Common.{◌≡◌, take}
use Rattle.std.specs.Prelude.{◌-◌}
use Rattle.std.specs.List.{sum_by}
use Rattle.cert.proofs.tally.without_different.Given as goal

abbrev pub invariant-loop-have : goal.invariant-loop-have
invariant-loop-have l = l.repeats ≡ l.taken - sum_by (λ counts. counts.1) (take l.have-index l.blocks)

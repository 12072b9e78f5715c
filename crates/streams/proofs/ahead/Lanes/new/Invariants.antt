use Rattle.std.proofs.Common.{◌≡◌}
use Rattle.std.specs.List.{All}
use Rattle.streams.proofs.ahead.Lanes.new.Given as goal

abbrev pub invariant-loop : goal.invariant-loop
invariant-loop g l = record { same : All (λ lane. lane.file.now ≡ l.file) l.lanes.items }

use Rattle.std.proofs.Common.{◌<◌, ℕ}
use Rattle.encoder.specs.Rounds.{AreMadeOf}
use Rattle.encoder.proofs.rounds.make.Given as goal

abbrev pub invariant-loop-block : goal.invariant-loop-block
invariant-loop-block l = (b : ℕ) → b < l.block → AreMadeOf l.object l.t.fti l.batch.first l.batch.count b l.symbols

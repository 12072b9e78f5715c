use Rattle.std.proofs.Common.{◌<◌, ℕ}
use Rattle.block_recovery.specs.Decoded.{IsEnoughAt}
use Rattle.decoder.proofs.counting.first_short.Given as goal

abbrev pub invariant-loop-block : goal.invariant-loop-block
invariant-loop-block g l = (a : ℕ) → a < l.block → IsEnoughAt (g.S.Source.known l.source) a (g.S.Source.at l.source a)

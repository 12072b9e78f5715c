use Rattle.std.proofs.Common.{ℕ, ◌<◌}
use Rattle.decoder.specs.Unsolvable.{IsSound}
use Rattle.decoder.proofs.verdict.has_unsolvable.Given as goal

abbrev pub invariant-loop-b : goal.invariant-loop-b
invariant-loop-b g l = record {
  sound : g.S.Source.Told l.coded.source.now → (a : ℕ) → a < l.b → IsSound (g.S.Source.known l.coded.source.now) (g.S.Source.at l.coded.source.now) a;
  fits : g.S.Source.Fits l.coded.source.now l.coded.codes.now l.workspace;
}

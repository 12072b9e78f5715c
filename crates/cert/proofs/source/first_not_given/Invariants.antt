use Rattle.std.proofs.Common.{◌≡◌, ℕ, ◌<◌}
use Rattle.cert.specs.Verdict.{GivesBlock}
use Rattle.cert.proofs.source.first_not_given.Given as goal

abbrev pub invariant-loop-block : goal.invariant-loop-block
invariant-loop-block l = record {
  certificate : l.symbols ≡ l.initial.symbols;
  given : (x : ℕ) → x < l.block → GivesBlock l.object l.symbols x;
}

use Rattle.std.proofs.Common.{◌≡◌, ℕ, ◌<◌, ◌≤◌}
use Rattle.cert.specs.Verdict.{GivesAt}
use Rattle.cert.proofs.source.first_not_given_in.Given as goal
use Rattle.cert.specs.NotGiven.{IsFirstIn}

abbrev pub invariant-loop-i : goal.invariant-loop-i
invariant-loop-i l = record {
  certificate : l.symbols ≡ l.initial.symbols;
  most : l.right ≤ l.symbols.fti.symbol_length;
  before : (y n : ℕ) → y < l.right → n < l.i → GivesAt l.object l.symbols l.block y n;
  first : l.right < l.symbols.fti.symbol_length → IsFirstIn l.object l.symbols l.block l.right l.symbol;
}

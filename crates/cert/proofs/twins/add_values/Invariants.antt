use Rattle.std.proofs.Common.{◌≡◌, ℕ, length, get_or}
use Rattle.gf256.specs.Arithmetic.{point}
use Rattle.poly.specs.Polynomial.{value}
use Rattle.cert.proofs.Adding.{added}
use Rattle.cert.proofs.twins.add_values.Given as goal

abbrev pub invariant-loop-i : goal.invariant-loop-i
invariant-loop-i l = record {
  long : length l.bytes ≡ length l.initial.bytes;
  bytes : (x : ℕ) → get_or l.bytes x 0 ≡ added l.fti.symbol_length 0 l.i (λ j. value l.polynomial (point j)) l.initial.bytes x;
}

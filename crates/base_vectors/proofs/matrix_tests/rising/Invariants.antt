use Rattle.std.proofs.Common.{◌≡◌, ℕ, ◌+◌, ◌*◌, ◌<◌, length, get_or}
use Rattle.base_vectors.proofs.matrix_tests.rising.Given as goal

abbrev pub invariant-loop-i : goal.invariant-loop-i
invariant-loop-i l = record {
  next : l.next ≡ l.from + l.step * l._i;
  count : length l.esis.items ≡ l._i;
  at : (j : ℕ) → j < l._i → get_or l.esis.items j 0 ≡ l.from + l.step * j;
}

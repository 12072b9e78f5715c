use Rattle.std.proofs.Common.{◌≡◌, ℕ, ◌+◌, ◌*◌, ◌<◌, List, length, get_or, arith}
use Rattle.elim.specs.Erasures.{AreErasures}
use Rattle.base_vectors.proofs.matrix_tests.recovers_half_of_a_block.Goals as goal

-- the odd ones of twenty source symbols are missing, and the first ten repair symbols came
halved : (k n : ℕ) (missing repair : List ℕ) → k ≡ 20 → n ≡ 30 → length missing ≡ 10 → length repair ≡ 10
    → ((i : ℕ) → i < 10 → get_or missing i 0 ≡ 1 + 2 * i) → ((i : ℕ) → i < 10 → get_or repair i 0 ≡ 20 + 1 * i) → AreErasures k n missing repair
halved k n missing repair hk hn many more at beyond = record {
  some = omega arith;
  count = omega arith;
  source = λ i li. omega (arith, at i (omega arith));
  beyond = λ i li. omega (arith, beyond i (omega arith));
  within = λ i li. omega (arith, beyond i (omega arith));
  missing_rise = λ i j lt lj. omega (arith, at i (omega arith), at j (omega arith));
  repair_rise = λ i j lt lj. omega (arith, beyond i (omega arith), beyond j (omega arith));
}

pub recovery-requires-clause-erasures : goal.recovery-requires-clause-erasures
recovery-requires-clause-erasures g c =
    rw (c.deref.ensures.value, c.deref-2.ensures.value) (halved c.in_ok-generator.generator.rows c.in_ok-generator.generator.cols c.in_ok-missing.missing.items c.in_ok-repair.repair.items
    c.in_ok-generator.ensures.generator.rows c.in_ok-generator.ensures.generator.cols c.in_ok-missing.ensures.count c.in_ok-repair.ensures.count c.in_ok-missing.ensures.at c.in_ok-repair.ensures.at)

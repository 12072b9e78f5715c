use Rattle.std.proofs.Common.{◌≡◌, ℕ, ◌<◌, ◌≤◌, length, get_or}
use Rattle.chart.proofs.columns.least_of.Given as goal

abbrev pub invariant-loop-value : goal.invariant-loop-value
invariant-loop-value l = record {
  each : (i : ℕ) → i < l.value-index → l.least ≤ get_or l.values i 0;
  one : (i : ℕ) × (i < length l.values) × (get_or l.values i 0 ≡ l.least);
}

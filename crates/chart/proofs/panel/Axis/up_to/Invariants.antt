use Rattle.std.proofs.Common.{◌≡◌, ◌<◌, ◌*◌, ◌-◌, ℕ, get_or}
use Rattle.std.specs.Prelude.{◌⊎◌}
use Rattle.chart.specs.declared.panel.TheConstants.{UNITS}
use Rattle.chart.proofs.panel.Axis.up_to.Given as goal

-- five of no unit before this one reach the value
abbrev pub invariant-loop-unit : goal.invariant-loop-unit
invariant-loop-unit l = record { less : (i : ℕ) → i < l.unit-index → get_or UNITS i 0 * 5 < l.greatest }

abbrev pub invariant-loop-lines : goal.invariant-loop-lines
invariant-loop-lines l = record { below : (l.lines ≡ 1) ⊎ (l.unit * (l.lines - 1) < l.greatest) }

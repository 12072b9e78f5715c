use Rattle.std.proofs.Common.{◌*◌, ◌≤◌, get_or, arith, sym}
use Rattle.std.proofs.Math.Nat.{mul-le-mul_left}
use Rattle.chart.specs.declared.panel.TheConstants.{UNITS}
use Rattle.chart.proofs.Units.{unit_first, unit_none}
use Rattle.chart.proofs.panel.Axis.up_to.Goals as goal

pub returns-then-top-greatest-clause-unit : goal.returns-then-top-greatest-clause-unit
returns-then-top-greatest-clause-unit c =
    let unit = get_or UNITS c.loop-unit.unit-index 0 in
    let five = mul-le-mul_left unit c.loop-lines-test.true in
    let reached : c.args.greatest ≤ unit * 5 = omega (arith, five, c.if-top-greatest.true, c.saturating_mul-top.ensures) in
    sym (unit_first UNITS c.args.greatest c.loop-unit.unit-index (omega (arith, c.loop-unit-test.true)) c.loop-unit.invariant.less reached)

pub returns-clause-unit : goal.returns-clause-unit
returns-clause-unit c = sym (unit_none UNITS c.args.greatest (λ j l. c.loop-unit.invariant.less j (omega (arith, l, c.loop-unit-test.false))))

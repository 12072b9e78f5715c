use Rattle.std.proofs.Common.{ℕ, ◌+◌, ◌*◌, ◌/◌, ◌<◌, length, ap, sym, ◌∙◌, arith}
use Rattle.std.proofs.Math.Nat.{mul-div_cancel_left}
use Rattle.chart.proofs.columns.column_of.Goals as goal

pub returns-clause-ends : goal.returns-clause-ends
returns-clause-ends c e =
    let count = length c.args.values.now in
    let some : 0 < c.args.column + 1 = omega arith in
    c.share_of-end.ensures.value ∙ ap (λ (k : ℕ). (c.args.column + 1) * count / k) (sym e) ∙ mul-div_cancel_left count some

use Rattle.std.proofs.Common.{nat_lt, arith}
use Rattle.losses.proofs.Filled.{filled-le, set_counted, bit_most}
use Rattle.losses.proofs.window.set_copies.Goals as goal

pub overflow_add-result : goal.overflow_add-result
overflow_add-result c =
    let f = filled-le c.args.copies.now in
    let b = bit_most (nat_lt 0 c.args.count) in
    omega (arith, f, b)

pub overflow_sub-result : goal.overflow_sub-result
overflow_sub-result c =
    let s = set_counted c.args.copies.now c.args.esi c.args.count (omega arith) (omega arith) in
    omega (arith, s)

pub returns-clause-counted : goal.returns-clause-counted
returns-clause-counted c =
    let s = set_counted c.args.copies.now c.args.esi c.args.count (omega arith) (omega arith) in
    omega (arith, s)

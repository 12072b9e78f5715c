use Rattle.std.proofs.Common.{◌≤◌, ◌+◌, arith}
use Rattle.std.proofs.Math.Nat.{mul-le-mul_left}
use Rattle.base_vectors.proofs.matrix_tests.rising.Goals as goal

pub overflow_add-next : goal.overflow_add-next
overflow_add-next c =
    let le : c.loop-i._i + 1 ≤ c.args.count = omega arith in
    omega (arith, mul-le-mul_left c.args.step le, c.loop-i.invariant.next, c.requires)

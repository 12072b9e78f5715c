use Rattle.std.proofs.Common.{arith}
use Rattle.cert.proofs.tally.Tally.put.Goals as goal

pub overflow_add-self : goal.overflow_add-self
overflow_add-self c =
    let few = c.args.self.now.few in
    omega (arith, few, c.in_ok-pass_over.ensures.taken, c.in_ok-pass_over.ensures.count, c.in_ok-pass_over.ensures.most)

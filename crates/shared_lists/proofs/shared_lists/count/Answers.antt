use Rattle.std.proofs.Common.{◌+◌, arith}
use Rattle.shared_lists.proofs.Lists.{total_more, total_front}
use Rattle.shared_lists.proofs.shared_lists.count.Goals as goal

pub overflow_add-count : goal.overflow_add-count
overflow_add-count c =
    let ls = c.args.lengths.now in
    let i = c.loop-length.length-index in
    let more = total_more ls i c.loop-length-test.true in
    let front = total_front ls (i + 1) in
    omega (arith, more, front, c.requires, c.loop-length.invariant)

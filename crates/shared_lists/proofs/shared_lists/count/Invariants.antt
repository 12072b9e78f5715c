use Rattle.std.proofs.Common.{◌≡◌, take}
use Rattle.shared_lists.specs.Totals.{total}
use Rattle.shared_lists.proofs.shared_lists.count.Given as goal

abbrev pub invariant-loop-length : goal.invariant-loop-length
invariant-loop-length l = l.count ≡ total (take l.length-index l.fn.lengths)

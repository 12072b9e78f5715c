use Rattle.std.proofs.Common.{◌≡◌, take}
use Rattle.block_recovery.specs.Differences.{differences}
use Rattle.block_recovery.proofs.padding.weight.Given as goal

abbrev pub invariant-loop-other : goal.invariant-loop-other
invariant-loop-other l = l.product ≡ differences (take l.other-index l.esis) l.esi

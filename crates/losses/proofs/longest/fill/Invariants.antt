use Rattle.std.proofs.Common.{length}
use Rattle.losses.specs.Groups.{groups_of}
use Rattle.losses.specs.Starts.{AreGroupsMarked}
use Rattle.losses.proofs.longest.fill.Given as goal

abbrev pub invariant-loop-block : goal.invariant-loop-block
invariant-loop-block l = AreGroupsMarked (groups_of l.groups) l.carriers (length l.initial.runs) l.block l.runs

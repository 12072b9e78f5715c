use Rattle.std.proofs.Common.{◌≡◌, length}
use Rattle.losses.specs.Groups.{groups_of}
use Rattle.base_vectors.proofs.loss_tests.repeats_count_once.Given as goal

abbrev pub invariant-loop-place : goal.invariant-loop-place
invariant-loop-place g l = length (groups_of l.groups) ≡ 1

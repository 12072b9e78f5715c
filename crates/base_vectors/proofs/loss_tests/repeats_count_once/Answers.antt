use Rattle.std.proofs.Common.{◌∙◌, List, length, ap}
use Rattle.losses.specs.Groups.{Group, groups_of}
use Rattle.losses.proofs.SharedGroups.{count_with}
use Rattle.base_vectors.proofs.loss_tests.repeats_count_once.Goals as goal

pub loop-place-preserved : goal.loop-place-preserved
loop-place-preserved g c = ap (λ (gs : List Group). length gs) c.in_ok-push-2.ensures.pushed ∙ count_with (groups_of c.loop-place.groups) 0 _ ∙ c.loop-place.invariant

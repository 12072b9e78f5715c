use Rattle.losses.specs.Groups.{groups_of}
use Rattle.losses.specs.Lightest.{AreLeast, AreNarrowest}
use Rattle.losses.proofs.report.weigh_all.Given as goal

abbrev pub invariant-loop-block : goal.invariant-loop-block
invariant-loop-block l = record {
  lightest : AreLeast (groups_of l.groups) l.block l.at l.threshold.cost l.threshold.most_copies l.threshold.last_esi l.gap.length;
  narrowest : AreNarrowest (groups_of l.groups) l.block l.gap_at l.gap.place l.gap.length;
}

use Rattle.std.proofs.Common.{◌≡◌, ℕ, ◌<◌, length, get_or, take, count_by}
use Rattle.losses.specs.Members.{has_esi}
use Rattle.losses.proofs.counting.copies_of.Given as goal

abbrev pub invariant-loop-member : goal.invariant-loop-member
invariant-loop-member l = record {
  size : length l.copies ≡ 256;
  counts : (j : ℕ) → j < 256 → get_or l.copies j 0 ≡ count_by (has_esi j) (take l.member-index l.members);
}

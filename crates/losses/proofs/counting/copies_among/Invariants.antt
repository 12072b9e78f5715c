use Rattle.std.proofs.Common.{◌≡◌, ℕ, ◌<◌, length, get_or, take, count_by}
use Rattle.losses.specs.Groups.{members_among}
use Rattle.losses.specs.Members.{has_esi}
use Rattle.losses.proofs.counting.copies_among.Given as goal

abbrev pub invariant-loop-entry : goal.invariant-loop-entry
invariant-loop-entry l = record {
  size : length l.copies ≡ 256;
  counts : (j : ℕ) → j < 256 → get_or l.copies j 0 ≡ count_by (has_esi j) (members_among l.group (take l.entry-index l.entries));
}

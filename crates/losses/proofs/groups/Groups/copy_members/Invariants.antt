use Rattle.std.proofs.Common.{◌≡◌, take}
use Rattle.losses.specs.Groups.{members_among}
use Rattle.losses.proofs.groups.Groups.copy_members.Given as goal

abbrev pub invariant-loop-entry : goal.invariant-loop-entry
invariant-loop-entry l = l.members.items ≡ members_among l.group (take l.entry-index l.entries)

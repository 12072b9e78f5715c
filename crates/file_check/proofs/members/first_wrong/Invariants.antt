use Rattle.std.proofs.Common.{◌≡◌, length, take}
use Rattle.losses.specs.Groups.{members_among}
use Rattle.file_check.proofs.GoneOver.{AreGoneOver}
use Rattle.file_check.proofs.members.first_wrong.Given as goal

abbrev pub invariant-loop-entry : goal.invariant-loop-entry
invariant-loop-entry g l = record {
  over : AreGoneOver (g.S.ReadAt.content l.fn.session.file.now) l.index l.made.block l.made.symbols.now l.fn.before (length (members_among l.made.block (take l.entry-index l.entries))) l.first;
  file : l.session.file.now ≡ l.fn.session.file.now;
}

use Rattle.std.proofs.Common.{length, ◌-◌, ◌≤◌, take}
use Rattle.streams.specs.Offsets.{Overwrites}
use Rattle.streams.proofs.offsets.write_all_at.Given as goal

abbrev pub invariant-loop-at : goal.invariant-loop-at
invariant-loop-at g l = record {
  within : l.at ≤ length l.bytes;
  bytes : Overwrites (g.W.Write.contents l.initial.writer) (g.W.Write.contents l.writer) l.offset (take l.at l.bytes);
}

abbrev pub decreases-loop-at : goal.decreases-loop-at
decreases-loop-at g l = length l.bytes - l.at

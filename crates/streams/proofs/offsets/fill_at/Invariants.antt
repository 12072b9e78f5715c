use Rattle.std.proofs.Common.{length, ◌-◌, ◌<◌, ◌≤◌, ◌+◌, ◌^◌, take}
use Rattle.std.specs.Prelude.{IfSome}
use Rattle.lists.specs.Bytes.{AreBytes}
use Rattle.streams.specs.Offsets.{StandsAt}
use Rattle.streams.proofs.offsets.fill_at.Given as goal

abbrev pub invariant-loop-at : goal.invariant-loop-at
invariant-loop-at g l = record {
  within : l.at ≤ length l.buf;
  fits : l.offset + l.at < 2 ^ 64;
  bytes : StandsAt (g.F.ReadAt.content l.file) l.offset (take l.at l.buf);
  each : 0 < l.at → IfSome (g.F.ReadAt.content l.file) AreBytes;
}

abbrev pub decreases-loop-at : goal.decreases-loop-at
decreases-loop-at g l = length l.initial.buf - l.at

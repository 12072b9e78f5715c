use Rattle.std.proofs.Common.{length, ◌-◌, ◌≡◌, ◌≤◌, take}
use Rattle.streams.specs.Offsets.{StandsAt}
use Rattle.streams.proofs.offsets.read_all_back.Given as goal

abbrev pub invariant-loop-at : goal.invariant-loop-at
invariant-loop-at g l = record {
  within : l.at ≤ length l.buf;
  bytes : StandsAt (g.W.Write.contents l.initial.sink) l.offset (take l.at l.buf);
  stays : g.W.Write.contents l.sink ≡ g.W.Write.contents l.initial.sink;
}

abbrev pub decreases-loop-at : goal.decreases-loop-at
decreases-loop-at g l = length l.initial.buf - l.at

use Rattle.std.proofs.Common.{◌≡◌, ◌++◌, map, length}
use Rattle.session.specs.Frames.{frames, AreShort, AreDatagrams}
use Rattle.alcrs_c.proofs.frames.datagrams_of.Given as goal

abbrev pub invariant-loop-left : goal.invariant-loop-left
invariant-loop-left l = record {
  whole : l.fn.bytes ≡ frames (map (λ v. v.now) l.datagrams.items) ++ l.left;
  short : AreShort (map (λ v. v.now) l.datagrams.items);
  each : AreDatagrams (map (λ v. v.now) l.datagrams.items);
}

abbrev pub decreases-loop-left : goal.decreases-loop-left
decreases-loop-left l = length l.left

use Rattle.std.proofs.Common.{◌≡◌, ◌-◌, ◌≤◌, ℕ, List, Some, take, drop}
use Rattle.std.specs.Io.KnownBytes.{Appends}
use Rattle.cert.specs.TwinBytes.{AppendsAny}
use Rattle.cert.proofs.twins.copy_part.Given as goal

abbrev pub invariant-loop-at : goal.invariant-loop-at
invariant-loop-at g l = record {
  low : l.from ≤ l.at;
  high : l.at ≤ l.to;
  copied : (o : List ℕ) → g.O.ReadAt.content l.object ≡ Some o
      → Appends (g.W.Write.contents l.initial.writer) (g.W.Write.contents l.writer) (take (l.at - l.from) (drop l.from o));
  some : AppendsAny (g.W.Write.contents l.initial.writer) (g.W.Write.contents l.writer);
}

abbrev pub decreases-loop-at : goal.decreases-loop-at
decreases-loop-at g l = l.to - l.at

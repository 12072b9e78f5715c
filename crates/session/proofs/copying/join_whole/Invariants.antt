use Rattle.std.proofs.Common.{◌≡◌, ◌≤◌, ℕ, false, List, map, length, drop}
use Rattle.session.specs.Copying.{HasJoined, IsAtReader, steps_left, IsWritten}
use Rattle.session.proofs.copying.join_whole.Given as goal

abbrev pub invariant-loop-place : goal.invariant-loop-place
invariant-loop-place g l = record {
  joined :
      (lists : List (List (List ℕ)))
      × HasJoined false (map g.R.Read.remaining l.initial.readers) (map g.R.Read.remaining l.readers) (IsWritten (g.W.Write.contents l.initial.writer) (g.W.Write.contents l.writer) (g.W.Write.room l.initial.writer) (g.W.Write.room l.writer)) l.count lists
      × IsAtReader l.place (map g.R.Read.remaining l.readers) lists;
  sound : map g.R.Read.sound l.readers ≡ map g.R.Read.sound l.initial.readers;
  size : length l.readers ≡ length l.initial.readers;
  within : l.place ≤ length l.readers;
}

abbrev pub decreases-loop-place : goal.decreases-loop-place
decreases-loop-place g l = steps_left (drop l.place (map g.R.Read.left l.readers))

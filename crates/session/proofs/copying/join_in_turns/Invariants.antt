use Rattle.std.proofs.Common.{◌≡◌, ◌<◌, ℕ, true, List, map, length, get_or}
use Rattle.session.specs.Copying.{HasJoined, IsInRound, IsWritten}
use Rattle.session.proofs.copying.join_in_turns.Given as goal

abbrev pub invariant-loop-round : goal.invariant-loop-round
invariant-loop-round g l = record {
  joined :
      (lists : List (List (List ℕ)))
      × HasJoined true (map g.R.Read.remaining l.initial.readers) (map g.R.Read.remaining l.readers) (IsWritten (g.W.Write.contents l.initial.writer) (g.W.Write.contents l.writer) (g.W.Write.room l.initial.writer) (g.W.Write.room l.writer)) l.count lists
      × IsInRound l._round 0 l.ended.items (map g.R.Read.remaining l.readers) lists;
  sound : map g.R.Read.sound l.readers ≡ map g.R.Read.sound l.initial.readers;
  size : length l.readers ≡ length l.initial.readers;
  flags : length l.ended.items ≡ length l.readers;
}

abbrev pub invariant-loop-place : goal.invariant-loop-place
invariant-loop-place g l = record {
  joined :
      (lists : List (List (List ℕ)))
      × HasJoined true (map g.R.Read.remaining l.fn.readers) (map g.R.Read.remaining l.readers) (IsWritten (g.W.Write.contents l.fn.writer) (g.W.Write.contents l.writer) (g.W.Write.room l.fn.writer) (g.W.Write.room l.writer)) l.count lists
      × IsInRound l._round l.place l.ended.items (map g.R.Read.remaining l.readers) lists;
  sound : map g.R.Read.sound l.readers ≡ map g.R.Read.sound l.fn.readers;
  size : length l.readers ≡ length l.fn.readers;
  flags : length l.ended.items ≡ length l.readers;
  over : l.over ≡ true → (i : ℕ) → i < l.place → get_or l.ended.items i true ≡ true;
}

use Rattle.std.proofs.Common.{◌≡◌, ◌<◌, ◌≤◌, ℕ, map, length, get_or}
use Rattle.std.specs.Prelude.{None}
use Rattle.session.specs.Joining.{IsWhole}
use Rattle.session.proofs.copying.first_fault.Given as goal

abbrev pub invariant-loop-place : goal.invariant-loop-place
invariant-loop-place g l = record {
  whole : (i : ℕ) → i < l.place → IsWhole (get_or (map g.R.Read.remaining l.initial.readers) i None);
  later : (i : ℕ) → l.place ≤ i → get_or (map g.R.Read.remaining l.readers) i None ≡ get_or (map g.R.Read.remaining l.initial.readers) i None;
  sound : map g.R.Read.sound l.readers ≡ map g.R.Read.sound l.initial.readers;
  size : length l.readers ≡ length l.initial.readers;
}

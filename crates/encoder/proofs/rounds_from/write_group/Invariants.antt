use Rattle.std.proofs.Common.{◌≡◌, ◌≤◌, ◌*◌, ◌^◌, ℕ, List}
use Rattle.std.specs.Prelude.{is_some}
use Rattle.encoder.specs.RoundPlaces.{AreSymbolsOf, HasFrames, IsAsLong, progress, place_of}
use Rattle.encoder.proofs.rounds_from.write_group.Given as goal

abbrev pub invariant-loop-esi : goal.invariant-loop-esi
invariant-loop-esi g l = record {
  frames : (object : List ℕ) → AreSymbolsOf object l.t.fti l.group.first l.group.count l.symbols
      → HasFrames object l.t.fti l.t.tsi l.t.toi l.t.every (progress l.group.first 0 0) (g.W.Write.contents l.initial.writer)
      → HasFrames object l.t.fti l.t.tsi l.t.toi l.t.every (progress l.group.first l.group.count l.esi) (g.W.Write.contents l.writer);
  start : l.start ≡ place_of l.t.fti l.esi 0;
  few : l.start ≤ 2 ^ 24 * l.esi;
  long : IsAsLong l.t.fti l.t.every (g.W.Write.contents l.writer);
  told : is_some (g.W.Write.contents l.writer) ≡ is_some (g.W.Write.contents l.initial.writer);
}

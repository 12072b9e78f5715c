use Rattle.std.proofs.Common.{◌≡◌, ◌≤◌, ◌+◌, ◌*◌, ℕ, List, [], Some, take, length}
use Rattle.encoder.specs.Sending.{AreSent, Sends, items_from}
use Rattle.encoder.specs.RoundPlaces.{AreSymbolsOf, run_of_round, offset_of}
use Rattle.encoder.proofs.rounds_from.put_run.Given as goal

abbrev pub invariant-loop-i : goal.invariant-loop-i
invariant-loop-i l = record {
  sent : (object : List ℕ) → AreSymbolsOf object l.t.fti l.group.first l.group.count l.symbols → Sends (AreSent object l.t.fti l.t.tsi l.t.toi l.t.every) (items_from l.place (run_of_round l.t.fti l.esi l.group.first l.i)) (Some []) (Some (take l.at l.run));
  next : l.next ≡ l.place + length (run_of_round l.t.fti l.esi l.group.first l.i);
  few : l.next ≤ l.place + l.i;
  size : offset_of l.t.fti l.t.every l.place + l.at ≡ offset_of l.t.fti l.t.every l.next;
  room : l.at ≤ l.i * (34 + l.t.fti.symbol_length);
}

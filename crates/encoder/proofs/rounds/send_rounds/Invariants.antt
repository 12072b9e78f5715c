use Rattle.std.proofs.Common.{◌≡◌, ◌≤◌, ◌<◌, ◌+◌, ◌*◌, ◌^◌, length}
use Rattle.std.specs.Prelude.{flat_map}
use Rattle.lists.specs.Below.{below}
use Rattle.partition.specs.declared.order.Order.TheVariants.{Rounds}
use Rattle.encoder.specs.Sending.{AreSent, Sends, items_from, session_bytes}
use Rattle.encoder.specs.Passes.{pairs_of_pass}
use Rattle.encoder.specs.Rounds.{AreMade}
use Rattle.encoder.proofs.rounds.send_rounds.Given as goal

abbrev pub invariant-loop-esi : goal.invariant-loop-esi
invariant-loop-esi g l = record {
  sent : Sends (AreSent l.object l.t.fti l.t.tsi l.t.toi l.t.every) (items_from 0 (flat_map (pairs_of_pass Rounds l.t.fti) (below l.esi))) (g.W.Write.contents l.initial.writer) (g.W.Write.contents l.writer);
  count : l.place ≡ length (flat_map (pairs_of_pass Rounds l.t.fti) (below l.esi));
  few : l.place ≤ 2 ^ 24 * 255 * l.esi;
  room : g.W.Write.room l.initial.writer ≤ g.W.Write.room l.writer + session_bytes l.t.fti l.t.every (items_from 0 (flat_map (pairs_of_pass Rounds l.t.fti) (below l.esi)));
  datagram : length l.datagram ≡ 32 + l.t.fti.symbol_length;
  from : l.batch.first ≤ l.esi;
  to : l.esi ≤ l.batch.first + l.batch.count;
  few_made : l.batch.count ≤ l.at_once;
  made : l.esi < l.batch.first + l.batch.count → AreMade l.object l.t.fti l.batch.first l.batch.count l.symbols;
}

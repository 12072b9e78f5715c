use Rattle.std.proofs.Common.{◌≡◌, ◌≤◌, ◌+◌, ℕ, List, length}
use Rattle.std.specs.Prelude.{flat_map}
use Rattle.lists.specs.Below.{below}
use Rattle.partition.specs.declared.order.Order.TheVariants.{Rounds}
use Rattle.encoder.specs.Sending.{AreSent, Sends, items_from, session_bytes}
use Rattle.encoder.specs.Passes.{pairs_in}
use Rattle.encoder.specs.Rounds.{AreMade}
use Rattle.encoder.proofs.rounds.send_round.Given as goal

abbrev pub invariant-loop-block : goal.invariant-loop-block
invariant-loop-block g l = record {
  sent : (object : List ℕ) → AreMade object l.t.fti l.batch.first l.batch.count l.symbols → Sends (AreSent object l.t.fti l.t.tsi l.t.toi l.t.every) (items_from l.place (flat_map (pairs_in Rounds l.t.fti l.esi) (below l.block))) (g.W.Write.contents l.initial.writer) (g.W.Write.contents l.writer);
  next : l.next ≡ l.place + length (flat_map (pairs_in Rounds l.t.fti l.esi) (below l.block));
  few : l.next ≤ l.place + l.block;
  datagram : length l.datagram ≡ 32 + l.t.fti.symbol_length;
  room : g.W.Write.room l.initial.writer ≤ g.W.Write.room l.writer + session_bytes l.t.fti l.t.every (items_from l.place (flat_map (pairs_in Rounds l.t.fti l.esi) (below l.block)));
}

use Rattle.std.proofs.Common.{◌≡◌, ◌≤◌, ◌+◌, ◌*◌, length}
use Rattle.std.specs.Prelude.{flat_map}
use Rattle.lists.specs.Below.{below}
use Rattle.encoder.specs.Sending.{AreSent, Sends, items_from, session_bytes}
use Rattle.encoder.specs.Passes.{pairs_in}
use Rattle.encoder.proofs.sending.send_pass.Given as goal

abbrev pub invariant-loop-block : goal.invariant-loop-block
invariant-loop-block g l = record {
  sent : Sends (AreSent l.object l.t.fti l.t.tsi l.t.toi l.t.every) (items_from l.place (flat_map (pairs_in l.t.order l.t.fti l.pass) (below l.block))) (g.W.Write.contents l.initial.writer) (g.W.Write.contents l.writer);
  next : l.next ≡ l.place + length (flat_map (pairs_in l.t.order l.t.fti l.pass) (below l.block));
  few : l.next ≤ l.place + 255 * l.block;
  room : g.W.Write.room l.initial.writer ≤ g.W.Write.room l.writer + session_bytes l.t.fti l.t.every (items_from l.place (flat_map (pairs_in l.t.order l.t.fti l.pass) (below l.block)));
}

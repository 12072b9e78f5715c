use Rattle.std.proofs.Common.{◌≡◌, ◌≤◌, ◌+◌, ◌*◌, ◌^◌, length}
use Rattle.std.specs.Prelude.{flat_map}
use Rattle.lists.specs.Below.{below}
use Rattle.encoder.specs.Sending.{AreSent, Sends, items_from, session_bytes}
use Rattle.encoder.specs.Passes.{pairs_of_pass}
use Rattle.encoder.proofs.sending.send_all.Given as goal

abbrev pub invariant-loop-pass : goal.invariant-loop-pass
invariant-loop-pass g l = record {
  sent : Sends (AreSent l.object l.t.fti l.t.tsi l.t.toi l.t.every) (items_from 0 (flat_map (pairs_of_pass l.t.order l.t.fti) (below l.pass))) (g.W.Write.contents l.initial.writer) (g.W.Write.contents l.writer);
  count : l.place ≡ length (flat_map (pairs_of_pass l.t.order l.t.fti) (below l.pass));
  few : l.place ≤ 2 ^ 24 * 255 * l.pass;
  room : g.W.Write.room l.initial.writer ≤ g.W.Write.room l.writer + session_bytes l.t.fti l.t.every (items_from 0 (flat_map (pairs_of_pass l.t.order l.t.fti) (below l.pass)));
}

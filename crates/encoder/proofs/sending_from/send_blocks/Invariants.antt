use Rattle.std.proofs.Common.{◌≡◌, ◌≤◌, ◌+◌, ◌*◌, length}
use Rattle.std.specs.Prelude.{flat_map}
use Rattle.lists.specs.Below.{below}
use Rattle.encoder.specs.BlocksRead.{HasRead}
use Rattle.encoder.specs.Sending.{AreSent, Sends, pairs_of_block, items_from, session_bytes}
use Rattle.encoder.proofs.sending_from.send_blocks.Given as goal

abbrev pub invariant-loop-block : goal.invariant-loop-block
invariant-loop-block g l = record {
  read : HasRead l.t.fti l.block (g.R.Read.remaining l.initial.reader) (g.R.Read.remaining l.reader)
      (λ object. Sends (AreSent object l.t.fti l.t.tsi l.t.toi l.t.every) (items_from 0 (flat_map (pairs_of_block l.t.fti) (below l.block))) (g.W.Write.contents l.initial.writer) (g.W.Write.contents l.writer));
  place : l.place ≡ length (flat_map (pairs_of_block l.t.fti) (below l.block));
  few : l.place ≤ 255 * l.block;
  room : g.W.Write.room l.initial.writer ≤ g.W.Write.room l.writer + session_bytes l.t.fti l.t.every (items_from 0 (flat_map (pairs_of_block l.t.fti) (below l.block)));
  stays : g.R.Read.sound l.reader ≡ g.R.Read.sound l.initial.reader;
}

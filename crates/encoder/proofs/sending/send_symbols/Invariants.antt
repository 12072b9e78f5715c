use Rattle.std.proofs.Common.{ℕ, List, ◌≡◌, ◌≤◌, ◌+◌, length}
use Rattle.encoder.specs.Sending.{AreSent, Sends, items_from, session_bytes}
use Rattle.lists.specs.Bytes.{AreBytes}
use Rattle.encoder.specs.Rows.{AreSourcesOf}
use Rattle.encoder.specs.Passes.{run_of}
use Rattle.encoder.proofs.sending.send_symbols.Given as goal

abbrev pub invariant-loop-i : goal.invariant-loop-i
invariant-loop-i g l = record {
  sent : (object : List ℕ) → AreBytes object → AreSourcesOf l.t.fti object l.block l.sources → Sends (AreSent object l.t.fti l.t.tsi l.t.toi l.t.every) (items_from l.place (run_of l.block l.first l.i)) (g.W.Write.contents l.initial.writer) (g.W.Write.contents l.writer);
  datagram : length l.datagram ≡ 32 + l.t.fti.symbol_length;
  room : g.W.Write.room l.initial.writer ≤ g.W.Write.room l.writer + session_bytes l.t.fti l.t.every (items_from l.place (run_of l.block l.first l.i));
}

use Rattle.std.proofs.Common.{◌∷◌, [], ◌++◌, ◌∙◌}
use Rattle.session.proofs.Copies.{consumes_more}
use Rattle.session.proofs.Sessions.{short_push, datagrams_push}
use Rattle.session.proofs.Passing.{frames_end}
use Rattle.file_decoder.proofs.indexing.read_rest.Goals as goal

pub loop-datagram-preserved : goal.loop-datagram-preserved
loop-datagram-preserved g c =
    let i = c.loop-datagram.invariant in
    let d = c.in-Some.datagram.items in
    let reads = rw c.in-Some.is at c.in_ok-datagram.ensures.some in
    let short = rw c.in-Some.is at c.in_ok-datagram.ensures.short in
    let bytes = rw c.as_slice.ensures.value at c.are_bytes.ensures in
    record {
      read = i.read ++ c.in-Some.datagram.items ∷ [];
      bytes = consumes_more _ _ _ i.read d i.bytes reads;
      short = short_push i.read d i.short short;
      each = datagrams_push i.read d i.each (record { short = short; bytes = bytes });
      stays = c.in_ok-datagram.ensures.stays ∙ i.stays;
    }

pub returns-in_default-clause-whole : goal.returns-in_default-clause-whole
returns-in_default-clause-whole g c =
    let i = c.loop-datagram.invariant in
    frames_end _ _ i.read i.bytes i.short i.each (c.in_ok-datagram.ensures.none c.in_default.is).0

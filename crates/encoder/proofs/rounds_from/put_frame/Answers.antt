use Rattle.std.proofs.Common.{ℕ, List, ◌++◌, take, ap, sym, arith, ◌∙◌}
use Rattle.std.proofs.lemmas.List.{drop_all}
use Rattle.byteorder.specs.Endian.{big_bytes}
use Rattle.alc.specs.Views.{lent}
use Rattle.alc.specs.Packet.{written}
use Rattle.alc.specs.Written.{packet_from}
use Rattle.alc.proofs.Writes.{length-written}
use Rattle.encoder.proofs.InPasses.{sent_at}
use Rattle.encoder.proofs.FramesSent.{framed_at}
use Rattle.encoder.proofs.rounds_from.put_frame.Goals as goal

pub returns-clause-frame : goal.returns-clause-frame
returns-clause-frame c = λ object agrees.
    let t = c.args.t.now in
    let long = length-written t.tsi t.toi (lent c.fti_at.result) c.args.block c.args.esi c.args.symbol.now ∙ sym c.write-size.ensures.length in
    let two = drop_all 2 c.split_at_mut-length.result.0.now (omega (arith, c.split_at_mut-length.ensures.front_len)) in
    let head = c.write_u16.ensures ∙ ap (λ (l : List ℕ). big_bytes 2 c.write-size.result ++ l) two in
    record {
      datagram = take c.write-size.result c.write-size.new.out;
      sent = sent_at object t.fti t.tsi t.toi t.every c.args.place c.args.block c.args.esi c.write-size.result (lent c.fti_at.result) c.args.symbol.now c.write-size.new.out _
          agrees c.fti_at.ensures c.write-size.ensures.length c.write-size.ensures.written;
      framed = framed_at c.write_u16.new.buf c.write-size.new.out (written (packet_from t.tsi t.toi (lent c.fti_at.result) c.args.block c.args.esi c.args.symbol.now)) _ c.write-size.result c.write-size.ensures.written long head;
    }

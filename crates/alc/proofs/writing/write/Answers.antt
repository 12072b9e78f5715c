use Rattle.std.proofs.Common.{◌≡◌, ◌+◌, ◌++◌, List, ℕ, ◌∙◌, ap, sym, arith, take, drop, length}
use Rattle.std.proofs.lemmas.List.{take_at, drop_at}
use Rattle.alc.specs.Packet.{Packet}
use Rattle.alc.specs.Views.{lent}
use Rattle.alc.specs.Written.{packet_from}
use Rattle.alc.specs.WrittenParts.{header_part, payload_part}
use Rattle.alc.proofs.Writes.{below_blocks, buffer_written, length-header_part, length-written, packet_written, written_packet}
use Rattle.alc.proofs.writing.write.Goals as goal

pub write_payload-requires-clause-block : goal.write_payload-requires-clause-block
write_payload-requires-clause-block c =
    below_blocks (lent c.args.fti) c.args.sbn c.args.esi (length c.args.symbol.now) c.write_header-header.ensures.valid c.requires.writable

pub returns-clause-written : goal.returns-clause-written
returns-clause-written c =
    let h : List ℕ = header_part c.args.tsi c.args.toi (lent c.args.fti) in
    let size : ℕ = c.write_header-header.result in
    let front : c.split_at_mut-payload.result.0.now ≡ h =
    c.split_at_mut-payload.ensures.front ∙ ap (take size) c.write_header-header.ensures.written ∙ take_at h (drop size c.args.out.now) size (sym c.write_header-header.ensures.size) in
    let back : c.split_at_mut-payload.result.1.now ≡ drop size c.args.out.now =
    c.split_at_mut-payload.ensures.back ∙ ap (drop size) c.write_header-header.ensures.written ∙ drop_at h (drop size c.args.out.now) size (sym c.write_header-header.ensures.size) in
    buffer_written c.args.tsi c.args.toi (lent c.args.fti) c.args.sbn c.args.esi c.args.symbol.now c.args.out.now _ _ size c.write_header-header.ensures.size front
    (c.write_payload.ensures ∙ ap (λ (x : List ℕ). payload_part c.args.sbn c.args.esi c.args.symbol.now ++ drop (4 + length c.args.symbol.now) x) back)

pub returns-clause-packet : goal.returns-clause-packet
returns-clause-packet c =
    let p : Packet = packet_from c.args.tsi c.args.toi (lent c.args.fti) c.args.sbn c.args.esi c.args.symbol.now in
    let size = length-written c.args.tsi c.args.toi (lent c.args.fti) c.args.sbn c.args.esi c.args.symbol.now in
    packet_written p _ _ _ (omega (arith, size, length-header_part c.args.tsi c.args.toi (lent c.args.fti), c.write_header-header.ensures.size)) (returns-clause-written c)
    (written_packet c.args.tsi c.args.toi (lent c.args.fti) c.args.sbn c.args.esi c.args.symbol.now c.ranges.tsi.fits c.ranges.toi.fits c.write_header-header.ensures.valid c.ranges.esi.fits c.requires.writable (λ i. omega (arith, c.type_inv.symbol i)))

use Rattle.std.specs.Prelude.{◌<◌, ◌^◌, length, IfSome}
use Rattle.std.proofs.Common.{sym, ◌∙◌, arith}
use Rattle.partition.specs.Fti.{IsValidFti}
use Rattle.alc.specs.Packet.{IsSymbolLength}
use Rattle.alc.proofs.Again.{reads, exact}
use Rattle.alc.proofs.Packets.{IfOk-packet, packet_valid, packet_symbol, packet_block, packet_tsi, packet_toi}
use Rattle.alc.proofs.reading.read_with.Goals as goal

pub returns-clause-reads : goal.returns-clause-reads
returns-clause-reads c = reads c.args.datagram.now (λ i. omega (arith, c.type_inv.datagram i)) _ c.parse.ensures

pub returns-clause-only : goal.returns-clause-only
returns-clause-only c r h = sym (exact c.args.datagram.now r h) ∙ c.parse.ensures

pub returns-clause-valid : goal.returns-clause-valid
returns-clause-valid c = IfOk-packet (λ p. IfSome p.fti IsValidFti) c.args.datagram.now _ (packet_valid c.args.datagram.now) (returns-clause-reads c)

pub returns-clause-symbol : goal.returns-clause-symbol
returns-clause-symbol c = IfOk-packet (λ p. IsSymbolLength p.fti (length p.bytes)) c.args.datagram.now _ (packet_symbol c.args.datagram.now) (returns-clause-reads c)

pub returns-clause-block : goal.returns-clause-block
returns-clause-block c = IfOk-packet (λ p. p.block < 2 ^ 24) c.args.datagram.now _ (packet_block c.args.datagram.now) (returns-clause-reads c)

pub returns-clause-tsi : goal.returns-clause-tsi
returns-clause-tsi c = IfOk-packet (λ p. p.tsi < 2 ^ 48) c.args.datagram.now _ (packet_tsi c.args.datagram.now) (returns-clause-reads c)

pub returns-clause-toi : goal.returns-clause-toi
returns-clause-toi c = IfOk-packet (λ p. p.toi < 2 ^ 112) c.args.datagram.now _ (packet_toi c.args.datagram.now) (returns-clause-reads c)

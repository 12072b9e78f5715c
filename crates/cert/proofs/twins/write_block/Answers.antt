use Rattle.std.proofs.Common.{arith}
use Rattle.certificate.proofs.Results.{passed_on}
use Rattle.cert.proofs.TwinParts.{fault_of_more, within}
use Rattle.cert.proofs.twins.write_block.Goals as goal

pub returns-in_err-read_piece-clause-fault : goal.returns-in_err-read_piece-clause-fault
returns-in_err-read_piece-clause-fault g c =
    let w = within c.args.fti.now c.begin_of.ensures.valid c.args.block c.requires.block in
    passed_on c.from_residual.result c.in_err-read_piece.field-0.0 _ c.from_residual.ensures.1
    (fault_of_more _ c.args.fti.now.transfer_length (g.O.ReadAt.content c.args.object.now) (g.O.ReadAt.reliable c.args.object.now) (g.W.Write.failed c.args.writer.now)
    c.in_err-read_piece.field-0.0 (c.in_err-read_piece.ensures.fault (g.W.Write.failed c.args.writer.now)) (omega (arith, w.1, c.begin_of.ensures.place, c.requires.bytes)))

pub returns-clause-each : goal.returns-clause-each
returns-clause-each g c =
    let w = within c.args.fti.now c.begin_of.ensures.valid c.args.block c.requires.block in
    c.in_ok-read_piece.ensures.each (omega (arith, w.0, c.requires.bytes))

use Rattle.std.proofs.Common.{◌<◌, arith, ap}
use Rattle.partition.specs.Fti.{block_count}
use Rattle.certificate.specs.Certificate.{block_columns}
use Rattle.certificate.proofs.Flat.{none_yet, appends_none, part_written, part_begun, part_room, no_room, on_err}
use Rattle.certificate.proofs.column_text.write_columns.Goals as goal

pub loop-b-init : goal.loop-b-init
loop-b-init g c = let none = none_yet (block_columns c.args.certificate.now) in record { sent = rw none (appends_none _); room = omega arith }

pub returns-in_err-write_block-clause-err : goal.returns-in_err-write_block-clause-err
returns-in_err-write_block-clause-err g c =
    let f = block_columns c.args.certificate.now in
    let less : c.loop-b.b < block_count c.args.certificate.now.fti = omega (arith, c.loop-b-test.true, c.block_count-b-end.ensures.value, ap block_count c.fti.ensures.value) in
    on_err _ (part_begun f c.loop-b.b _ _ _ c.loop-b.invariant.sent _ less c.in_err-write_block.ensures.err)

pub returns-in_err-write_block-clause-full : goal.returns-in_err-write_block-clause-full
returns-in_err-write_block-clause-full g c =
    let f = block_columns c.args.certificate.now in
    let less : c.loop-b.b < block_count c.args.certificate.now.fti = omega (arith, c.loop-b-test.true, c.block_count-b-end.ensures.value, ap block_count c.fti.ensures.value) in
    on_err _ (no_room f c.loop-b.b _ less _ _ c.loop-b.invariant.room c.in_err-write_block.ensures.full)

pub loop-b-preserved : goal.loop-b-preserved
loop-b-preserved g c =
    let f = block_columns c.args.certificate.now in record {
      sent = part_written f c.loop-b.b _ _ _ c.loop-b.invariant.sent c.in_ok-write_block.ensures.ok;
      room = part_room f c.loop-b.b _ _ _ c.loop-b.invariant.room c.in_ok-write_block.ensures.fills;
    }

use Rattle.std.proofs.Common.{◌<◌, arith}
use Rattle.partition.specs.Fti.{block_count}
use Rattle.certificate.proofs.Flat.{on_err}
use Rattle.certificate.proofs.BlockByBlock.{less_room, room_left}
use Rattle.block_code.proofs.SourceRows.{bytes_fit}
use Rattle.encoder.proofs.FirstRows.{none_written, block_written, block_begun}
use Rattle.encoder.proofs.certifying.write_rows.Goals as goal

pub loop-b-init : goal.loop-b-init
loop-b-init g c = record { written = none_written c.args.object.now c.args.fti.now _; room = omega arith }

pub returns-in_err-write_block-clause-err : goal.returns-in_err-write_block-clause-err
returns-in_err-write_block-clause-err g c =
    let object = c.args.object.now in
    let inside : c.loop-b.b < block_count c.args.fti.now = omega (arith, c.loop-b-test.true, c.block_count-b-end.ensures.value) in
    on_err _ (block_begun object c.args.fti.now c.block_count-b-end.ensures.valid c.loop-b.b _ _ _ c.loop-b.invariant.written inside
    (c.in_err-write_block.ensures.err object (bytes_fit object c.type_inv.object) c.block_of.ensures))

pub returns-in_err-write_block-clause-full : goal.returns-in_err-write_block-clause-full
returns-in_err-write_block-clause-full g c =
    let f = c.args.fti.now in
    let inside : c.loop-b.b < block_count f = omega (arith, c.loop-b-test.true, c.block_count-b-end.ensures.value) in
    on_err _ (less_room f c.block_count-b-end.ensures.valid c.loop-b.b _ _ inside c.loop-b.invariant.room c.in_err-write_block.ensures.full)

pub loop-b-preserved : goal.loop-b-preserved
loop-b-preserved g c =
    let f = c.args.fti.now in
    let valid = c.block_count-b-end.ensures.valid in
    let object = c.args.object.now in
    record {
      written = block_written object f valid c.loop-b.b _ _ _ c.loop-b.invariant.written (c.in_ok-write_block.ensures.ok object (bytes_fit object c.type_inv.object) c.block_of.ensures);
      room = room_left f valid c.loop-b.b _ _ _ c.loop-b.invariant.room c.in_ok-write_block.ensures.fills;
    }

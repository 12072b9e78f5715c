use Rattle.std.proofs.Common.{◌≡◌, ◌<◌, ◌≤◌, ◌∙◌, length, refl, arith, length-take-le}
use Rattle.partition.specs.Fti.{block_count}
use Rattle.certificate.proofs.BlockByBlock.{less_room, room_left}
use Rattle.certificate.proofs.Results.{passed_on}
use Rattle.certificate.proofs.Flat.{on_err}
use Rattle.certificate.proofs.GreatestBlock.{rows_of_block}
use Rattle.encoder.specs.declared.certifying_from.CertifyFromFault.TheVariants.{Object, Write}
use Rattle.partition.specs.Fti.{block_bytes}
use Rattle.encoder.proofs.FirstRows.{none_written, block_written, block_begun, rows_begun}
use Rattle.encoder.proofs.ObjectBlocks.{none_read, next_read, some_read, so_far, block_fault}
use Rattle.encoder.proofs.certifying_from.write_rows.Goals as goal

pub loop-b-init : goal.loop-b-init
loop-b-init g c = record { read = none_read c.args.fti.now _ _ (λ object. none_written object c.args.fti.now _); room = omega arith; stays = refl }

pub slice_bounds-block-end : goal.slice_bounds-block-end
slice_bounds-block-end g c =
    let f = c.args.fti.now in
    omega (arith, c.block_bytes.ensures.value, rows_of_block f c.block_count-b-end.ensures.valid c.loop-b.b, c.requires.sources, c.loop-b.auto.sources)

pub slice_bounds-block-end-in-loop-b : goal.slice_bounds-block-end-in-loop-b
slice_bounds-block-end-in-loop-b g c =
    let f = c.args.fti.now in
    let room : c.block_bytes.result ≤ length c.loop-b.sources =
    omega (arith, c.block_bytes.ensures.value, rows_of_block f c.block_count-b-end.ensures.valid c.loop-b.b, c.requires.sources, c.loop-b.auto.sources) in
    omega (arith, length-take-le c.block_bytes.result c.loop-b.sources room)

pub returns-in_err-read_block-clause-err : goal.returns-in_err-read_block-clause-err
returns-in_err-read_block-clause-err g c =
    let f = c.args.fti.now in
    let inside : c.loop-b.b ≤ block_count f = omega (arith, c.loop-b-test.true, c.block_count-b-end.ensures.value) in
    on_err _ (so_far f c.block_count-b-end.ensures.valid c.loop-b.b _ _ _ c.loop-b.invariant.read _ (λ object done. rows_begun object f c.loop-b.b _ _ inside done))

pub returns-in_err-read_block-clause-fault : goal.returns-in_err-read_block-clause-fault
returns-in_err-read_block-clause-fault g c =
    let f = c.args.fti.now in
    let e = c.in_err-read_block.field-0.0 in
    let inside : c.loop-b.b < block_count f = omega (arith, c.loop-b-test.true, c.block_count-b-end.ensures.value) in
    let room : c.block_bytes.result ≤ length c.loop-b.sources =
    omega (arith, c.block_bytes.ensures.value, rows_of_block f c.block_count-b-end.ensures.valid c.loop-b.b, c.requires.sources, c.loop-b.auto.sources) in
    let long = length-take-le c.block_bytes.result c.loop-b.sources room ∙ c.block_bytes.ensures.value in
    passed_on c.from_residual.result (Object e) _ c.from_residual.ensures.1
    (block_fault f c.block_count-b-end.ensures.valid c.loop-b.b _ _ _ c.loop-b.invariant.read e _ _ _ _ inside long c.in_err-read_block.ensures.short c.in_err-read_block.ensures.io c.loop-b.invariant.stays)

pub returns-in_err-write_block-clause-err : goal.returns-in_err-write_block-clause-err
returns-in_err-write_block-clause-err g c =
    let f = c.args.fti.now in
    let valid = c.block_count-b-end.ensures.valid in
    let inside : c.loop-b.b < block_count f = omega (arith, c.loop-b-test.true, c.block_count-b-end.ensures.value) in
    let room : c.block_bytes.result ≤ length c.loop-b.sources = omega (arith, c.block_bytes.ensures.value, rows_of_block f valid c.loop-b.b, c.requires.sources, c.loop-b.auto.sources) in
    let long : length c.read_block.new.bytes ≡ block_bytes f c.loop-b.b = c.in_ok-read_block.ensures.len ∙ length-take-le c.block_bytes.result c.loop-b.sources room ∙ c.block_bytes.ensures.value in
    on_err _ (some_read f valid c.loop-b.b _ _ _ c.loop-b.invariant.read inside _ c.read_block.new.bytes long c.in_ok-read_block.ensures.bytes c.in_ok-read_block.ensures.read _
    (λ object bytes are done. block_begun object f valid c.loop-b.b _ _ _ done inside (c.in_err-write_block.ensures.err object bytes are)))

pub returns-in_err-write_block-clause-full : goal.returns-in_err-write_block-clause-full
returns-in_err-write_block-clause-full g c =
    let f = c.args.fti.now in
    let inside : c.loop-b.b < block_count f = omega (arith, c.loop-b-test.true, c.block_count-b-end.ensures.value) in
    passed_on c.from_residual-in_err-write_block.result Write _ c.from_residual-in_err-write_block.ensures.1
    (λ e. less_room f c.block_count-b-end.ensures.valid c.loop-b.b _ _ inside c.loop-b.invariant.room c.in_err-write_block.ensures.full)

pub loop-b-preserved : goal.loop-b-preserved
loop-b-preserved g c =
    let f = c.args.fti.now in
    let valid = c.block_count-b-end.ensures.valid in
    let inside : c.loop-b.b < block_count f = omega (arith, c.loop-b-test.true, c.block_count-b-end.ensures.value) in
    let room : c.block_bytes.result ≤ length c.loop-b.sources = omega (arith, c.block_bytes.ensures.value, rows_of_block f valid c.loop-b.b, c.requires.sources, c.loop-b.auto.sources) in
    let long : length c.read_block.new.bytes ≡ block_bytes f c.loop-b.b = c.in_ok-read_block.ensures.len ∙ length-take-le c.block_bytes.result c.loop-b.sources room ∙ c.block_bytes.ensures.value in
    record {
      read =
          next_read f valid c.loop-b.b _ _ _ c.loop-b.invariant.read inside _ c.read_block.new.bytes long c.in_ok-read_block.ensures.bytes c.in_ok-read_block.ensures.read _
          (λ object bytes are done. block_written object f valid c.loop-b.b _ _ _ done (c.in_ok-write_block.ensures.ok object bytes are));
      room = room_left f valid c.loop-b.b _ _ _ c.loop-b.invariant.room c.in_ok-write_block.ensures.fills;
      stays = c.in_ok-read_block.ensures.stays ∙ c.loop-b.invariant.stays;
    }

pub returns-clause-ok : goal.returns-clause-ok
returns-clause-ok g c =
    let end : c.loop-b.b ≡ block_count c.args.fti.now = omega (arith, c.loop-b-test.false, c.loop-b.auto.b-end, c.block_count-b-end.ensures.value) in
    rw end at c.loop-b.invariant.read

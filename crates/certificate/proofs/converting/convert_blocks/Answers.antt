use Rattle.std.proofs.Common.{◌≡◌, ◌<◌, ◌*◌, ◌∙◌, length, refl, arith}
use Rattle.std.proofs.lemmas.Grind.{common_steps}
use Rattle.partition.specs.Fti.{block_count, source_count}
use Rattle.certificate.specs.declared.converting.ConvertFault.TheVariants.{Certificate as OfCertificate}
use Rattle.certificate.proofs.Results.{passed_on}
use Rattle.certificate.proofs.Flat.{on_err}
use Rattle.certificate.proofs.BlockByBlock.{none_converted, block_converted, cut_block, room_left, some_converted, cut_written}
use Rattle.certificate.proofs.converting.convert_blocks.Goals as goal

pub loop-b-init : goal.loop-b-init
loop-b-init g c = record { converts = none_converted c.args.head.now.name c.args.head.now.fti _ _; room = omega arith; stays = refl }

pub returns-in_err-told-clause-fault : goal.returns-in_err-told-clause-fault
returns-in_err-told-clause-fault g c =
    let f = c.args.head.now.fti in
    let b = c.loop-b.b in
    let k = c.k-count.ensures.value in
    let e = c.from-width.ensures ∙ c.symbol_length.ensures.value in
    let inside : c.loop-b.b < block_count f = omega (arith, c.loop-b-test.true, c.block_count-b-end.ensures.value) in
    passed_on c.from_residual.result (OfCertificate c.in_err-told.field-0.0) _ c.from_residual.ensures.1 (
      c.in_err-told.ensures.fault,
      λ short. cut_block f c.symbol_length.ensures.valid c.args.head.now.name b _ _ _ _ c.loop-b.invariant.converts inside (rw (k, e) at (c.in_err-told.ensures.size short)),
    )

pub loop-b-preserved : goal.loop-b-preserved
loop-b-preserved g c =
    let f = c.args.head.now.fti in
    let b = c.loop-b.b in
    let k = c.k-count.ensures.value in
    let e = c.from-width.ensures ∙ c.symbol_length.ensures.value in
    let t = c.in_ok-told.told.items in
    let r = c.in_ok-rows.rows.items in
    let t_long : length c.in_ok-told.told.items ≡ source_count f b * f.symbol_length = rw (k, e) at c.in_ok-told.ensures.count in
    let r_long : length c.in_ok-rows.rows.items ≡ source_count f b * f.symbol_length = rw (k, e) at c.in_ok-rows.ensures.len in
    let valid = c.symbol_length.ensures.valid in
    record {
      converts =
          block_converted f valid c.args.head.now.name b _ _ _ _ _ c.loop-b.invariant.converts t t_long c.in_ok-told.ensures.ok r _ r_long c.in_ok-rows.ensures.bytes
          (rw (k, e) at c.in_ok-rows.ensures.rows) (rw c.as_slice.ensures.value at c.in_ok-write_all.ensures.ok);
      room = room_left f valid b _ _ _ c.loop-b.invariant.room (rw (c.as_slice.ensures.value, r_long) at c.in_ok-write_all.ensures.fills);
      stays = c.in_ok-told.ensures.stays ∙ c.loop-b.invariant.stays;
    }

pub returns-in_err-write_all-clause-fault : goal.returns-in_err-write_all-clause-fault
returns-in_err-write_all-clause-fault g c = grind (arith, common_steps) steps 2000000

pub returns-in_err-told-clause-begun : goal.returns-in_err-told-clause-begun
returns-in_err-told-clause-begun g c =
    let f = c.args.head.now.fti in
    let inside : c.loop-b.b < block_count f = omega (arith, c.loop-b-test.true, c.block_count-b-end.ensures.value) in
    on_err c.from_residual.result (some_converted c.args.head.now.name f c.loop-b.b _ _ _ _ (omega (arith, inside)) c.loop-b.invariant.converts)

pub returns-in_err-rows-clause-begun : goal.returns-in_err-rows-clause-begun
returns-in_err-rows-clause-begun g c =
    let f = c.args.head.now.fti in
    let inside : c.loop-b.b < block_count f = omega (arith, c.loop-b-test.true, c.block_count-b-end.ensures.value) in
    on_err c.from_residual-in_err-rows.result (some_converted c.args.head.now.name f c.loop-b.b _ _ _ _ (omega (arith, inside)) c.loop-b.invariant.converts)

pub returns-in_err-write_all-clause-begun : goal.returns-in_err-write_all-clause-begun
returns-in_err-write_all-clause-begun g c =
    let f = c.args.head.now.fti in
    let b = c.loop-b.b in
    let k = c.k-count.ensures.value in
    let e = c.from-width.ensures ∙ c.symbol_length.ensures.value in
    let inside : c.loop-b.b < block_count f = omega (arith, c.loop-b-test.true, c.block_count-b-end.ensures.value) in
    let t_long : length c.in_ok-told.told.items ≡ source_count f b * f.symbol_length = rw (k, e) at c.in_ok-told.ensures.count in
    let r_long : length c.in_ok-rows.rows.items ≡ source_count f b * f.symbol_length = rw (k, e) at c.in_ok-rows.ensures.len in
    on_err c.from_residual-in_err-write_all.result
    (cut_written f c.symbol_length.ensures.valid c.args.head.now.name b _ _ _ _ _ _ c.loop-b.invariant.converts c.in_ok-told.told.items t_long c.in_ok-told.ensures.ok
    c.in_ok-rows.rows.items r_long c.in_ok-rows.ensures.bytes (rw (k, e) at c.in_ok-rows.ensures.rows) inside (rw c.as_slice.ensures.value at c.in_err-write_all.ensures.err))

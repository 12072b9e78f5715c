use Rattle.std.proofs.Common.{◌∙◌, ap, arith}
use Rattle.partition.proofs.Laws.{some_block}
use Rattle.certificate.proofs.Results.{passed_on}
use Rattle.encoder.specs.declared.sending_from.SendFromFault.TheVariants.{Object}
use Rattle.encoder.specs.RoundPlaces.{offset_of}
use Rattle.encoder.proofs.RoundPlaces.{pairs_fit}
use Rattle.encoder.proofs.ObjectBlocks.{object_read, end_fault, then_object}
use Rattle.encoder.proofs.FramesSent.{all_sent, resized_told, resized_long}
use Rattle.encoder.proofs.rounds_from.encode_rounds_from.Goals as goal

pub k-requires : goal.k-requires
k-requires g c = some_block c.args.fti.now c.symbol_length.ensures.valid

pub n-requires : goal.n-requires
n-requires g c = some_block c.args.fti.now c.symbol_length.ensures.valid

pub frame_offset-requires-clause-place : goal.frame_offset-requires-clause-place
frame_offset-requires-clause-place g c =
    omega (arith, c.datagram_count-count.ensures, pairs_fit c.args.fti.now c.symbol_length.ensures.valid)

pub write_groups-requires-clause-long : goal.write_groups-requires-clause-long
write_groups-requires-clause-long g c =
    let f = c.args.fti.now in
    resized_long f c.args.every c.frame_offset.result _ _ c.in-Ok.ensures.resized
    (c.frame_offset.ensures ∙ ap (offset_of f c.args.every) c.datagram_count-count.ensures)

pub returns-in_err-read_end-clause-fault : goal.returns-in_err-read_end-clause-fault
returns-in_err-read_end-clause-fault g c =
    let f = c.args.fti.now in
    let valid = c.symbol_length.ensures.valid in
    let e = c.in_err-read_end.field-0.0 in
    passed_on c.from_residual-in_err-read_end.result (Object e) _ c.from_residual-in_err-read_end.ensures.1 (
      omega arith,
      end_fault f valid _ _ _ c.in_ok-write_groups.ensures.ok e _ _ _ c.in_err-read_end.ensures.more c.in_err-read_end.ensures.io c.in_ok-write_groups.ensures.stays,
    )

pub returns-clause-sent : goal.returns-clause-sent
returns-clause-sent g c =
    let a = c.args in
    let f = a.fti.now in
    let valid = c.symbol_length.ensures.valid in
    then_object f _ _ _
    (λ object form h. all_sent object f a.tsi a.toi a.every _ h valid _ (c.in_ok-write_groups.ensures.told ∙ resized_told c.frame_offset.result _ _ c.in-Ok.ensures.resized))
    (object_read f valid _ _ _ c.in_ok-write_groups.ensures.ok c.in_ok-read_end.ensures.none)

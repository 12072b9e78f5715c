use Rattle.partition.proofs.Laws.{some_block}
use Rattle.std.proofs.Common.{arith}
use Rattle.partition.specs.Fti.{block_count}
use Rattle.certificate.proofs.Results.{passed_on}
use Rattle.encoder.specs.declared.certifying_from.CertifyFromFault.TheVariants.{Object, Write}
use Rattle.encoder.proofs.CertificateRead.{rows_fault}
use Rattle.encoder.proofs.FirstRows.{certified, behind_head, head_begun, rows_begun}
use Rattle.encoder.proofs.ObjectBlocks.{nothing_yet, so_far, then_some, then_object, object_read, end_fault}
use Rattle.encoder.proofs.certifying_from.certify_from.Goals as goal

pub k-requires : goal.k-requires
k-requires g c = some_block c.args.fti.now c.symbol_length.ensures.valid

pub returns-in_err-write_head-clause-fault : goal.returns-in_err-write_head-clause-fault
returns-in_err-write_head-clause-fault g c =
    passed_on c.from_residual-in_err-write_head.result Write _ c.from_residual-in_err-write_head.ensures.1 (
      nothing_yet c.args.fti.now _ _ (λ object. head_begun object c.args.fti.now _ _ _ c.in_err-write_head.ensures.err),
      c.in_err-write_head.ensures.fails,
    )

pub returns-in_err-write_rows-clause-fault : goal.returns-in_err-write_rows-clause-fault
returns-in_err-write_rows-clause-fault g c =
    let f = c.args.fti.now in
    let e = c.in_err-write_rows.field-0.0 in
    passed_on c.from_residual-in_err-write_rows.result e _ c.from_residual-in_err-write_rows.ensures.1
    (rows_fault e f c.args.identity _ _ c.in_err-write_rows.ensures.fault
    (then_some f _ _ _ (λ object begun. behind_head object f _ _ _ _ c.in_ok-write_head.ensures.ok begun) c.in_err-write_rows.ensures.err))

pub returns-in_err-read_end-clause-fault : goal.returns-in_err-read_end-clause-fault
returns-in_err-read_end-clause-fault g c =
    let f = c.args.fti.now in
    let e = c.in_err-read_end.field-0.0 in
    passed_on c.from_residual-in_err-read_end.result (Object e) _ c.from_residual-in_err-read_end.ensures.1 (
      end_fault f c.symbol_length.ensures.valid _ _ _ c.in_ok-write_rows.ensures.ok e _ _ _ c.in_err-read_end.ensures.more c.in_err-read_end.ensures.io c.in_ok-write_rows.ensures.stays,
      so_far f c.symbol_length.ensures.valid (block_count f) _ _ _ c.in_ok-write_rows.ensures.ok _
          (λ object done. behind_head object f _ _ _ _ c.in_ok-write_head.ensures.ok (rows_begun object f (block_count f) _ _ (omega arith) done)),
    )

pub returns-clause-certified : goal.returns-clause-certified
returns-clause-certified g c =
    let f = c.args.fti.now in
    then_object f _ _ _ (λ object form done. certified object f c.symbol_length.ensures.valid c.args.identity _ _ _ form c.in_ok-write_head.ensures.ok done)
    (object_read f c.symbol_length.ensures.valid _ _ _ c.in_ok-write_rows.ensures.ok c.in_ok-read_end.ensures.none)

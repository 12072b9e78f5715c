use Rattle.std.proofs.Common.{◌≡◌, false, true, sym, arith}
use Rattle.partition.specs.Fti.{block_count}
use Rattle.certificate.specs.declared.converting.ConvertFault.TheVariants.{Certificate as OfCertificate, Write}
use Rattle.certificate.specs.Certificate.{is_for}
use Rattle.certificate.proofs.Consuming.{coefficients_fault}
use Rattle.certificate.proofs.Results.{passed_on}
use Rattle.certificate.proofs.Flat.{on_err}
use Rattle.certificate.proofs.BlockByBlock.{some_converted}
use Rattle.certificate.proofs.ConvertedBegun.{head_begun, blocks_begun}
use Rattle.certificate.proofs.GivenName.{name_fault, other_read, no_room_for_head, blocks_fault, more_behind, converted}
use Rattle.certificate.proofs.converting.convert.Goals as goal

pub returns-in_err-pass_over-clause-fault : goal.returns-in_err-pass_over-clause-fault
returns-in_err-pass_over-clause-fault g c =
    let e = c.in_err-pass_over.field-0.0 in
    passed_on c.from_residual-in_err-pass_over.result (OfCertificate e) _ c.from_residual-in_err-pass_over.ensures.1
    (name_fault e c.args.identity _ _
    (coefficients_fault e _ _ _ c.in_ok-head.head.name c.in_ok-head.head.fti c.in_ok-head.ensures.valid c.coefficients_of-count.ensures.valid c.in_ok-head.ensures.ok
    (λ size. rw c.coefficients_of-count.ensures.count at (c.in_err-pass_over.ensures.size size)) c.in_err-pass_over.ensures.fault))

pub returns-then-not-is_for-clause-fault : goal.returns-then-not-is_for-clause-fault
returns-then-not-is_for-clause-fault g c =
    let other : is_for c.args.identity c.in_ok-head.head.name ≡ false = sym c.if-not-is_for.ensures in
    other_read c.args.identity c.in_ok-head.head.name c.in_ok-head.head.fti c.coefficients_of-count.ensures.valid c.in_ok-head.ensures.name _ _ c.in_ok-head.ensures.ok other
    (rw c.coefficients_of-count.ensures.count at c.in_ok-pass_over.ensures.ok)

pub returns-in_err-write_head-clause-fault : goal.returns-in_err-write_head-clause-fault
returns-in_err-write_head-clause-fault g c =
    passed_on c.from_residual-in_err-write_head.result Write _ c.from_residual-in_err-write_head.ensures.1 (
      c.in_err-write_head.ensures.fails,
      no_room_for_head c.args.identity c.in_ok-head.head.name c.in_ok-head.head.fti c.coefficients_of-count.ensures.valid c.in_ok-head.ensures.name _ _ c.in_ok-head.ensures.ok _ c.in_err-write_head.ensures.full,
    )

pub returns-in_err-convert_blocks-clause-fault : goal.returns-in_err-convert_blocks-clause-fault
returns-in_err-convert_blocks-clause-fault g c =
    let e = c.in_err-convert_blocks.field-0.0 in
    passed_on c.from_residual-in_err-convert_blocks.result e _ c.from_residual-in_err-convert_blocks.ensures.1
    (blocks_fault c.args.identity c.in_ok-head.head.name c.in_ok-head.head.fti c.coefficients_of-count.ensures.valid c.in_ok-head.ensures.name _ _ c.in_ok-head.ensures.ok e _ _ _ _ c.in_ok-head.ensures.valid
    c.in_ok-write_head.ensures.fills c.in_err-convert_blocks.ensures.fault)

pub returns-in_err-pass_over-2-clause-fault : goal.returns-in_err-pass_over-2-clause-fault
returns-in_err-pass_over-2-clause-fault g c =
    let e = c.in_err-pass_over-2.field-0.0 in
    let who = c.args.identity in
    let name = c.in_ok-head.head.name in
    let f = c.in_ok-head.head.fti in
    let valid = c.coefficients_of-count.ensures.valid in
    passed_on c.from_residual-in_err-pass_over-2.result (OfCertificate e) _ c.from_residual-in_err-pass_over-2.ensures.1
    (name_fault e who _ _
    (coefficients_fault e _ _ _ name f c.in_ok-head.ensures.valid valid c.in_ok-head.ensures.ok
    (λ size. more_behind who name f valid c.in_ok-head.ensures.name _ _ c.in_ok-head.ensures.ok _ _ _ c.in_ok-convert_blocks.ensures.ok (c.in_err-pass_over-2.ensures.size size))
    c.in_err-pass_over-2.ensures.fault))

pub returns-clause-converted : goal.returns-clause-converted
returns-clause-converted g c =
    let own : is_for c.args.identity c.in_ok-head.head.name ≡ true = sym c.if-not-is_for.ensures in
    converted c.args.identity c.in_ok-head.head.name c.in_ok-head.head.fti c.coefficients_of-count.ensures.valid c.in_ok-head.ensures.name _ _ c.in_ok-head.ensures.ok _ _ _
    c.in_ok-convert_blocks.ensures.ok _ own c.in_ok-pass_over-2.ensures.ok c.in_ok-write_head.ensures.ok

pub returns-in_err-write_head-clause-begun : goal.returns-in_err-write_head-clause-begun
returns-in_err-write_head-clause-begun g c =
    let own : is_for c.args.identity c.in_ok-head.head.name ≡ true = sym c.if-not-is_for.ensures in
    on_err c.from_residual-in_err-write_head.result
    (head_begun c.args.identity c.in_ok-head.head.name c.in_ok-head.head.fti c.coefficients_of-count.ensures.valid c.in_ok-head.ensures.name _ _ c.in_ok-head.ensures.ok own _ _
    c.in_err-write_head.ensures.err)

pub returns-in_err-convert_blocks-clause-begun : goal.returns-in_err-convert_blocks-clause-begun
returns-in_err-convert_blocks-clause-begun g c =
    let own : is_for c.args.identity c.in_ok-head.head.name ≡ true = sym c.if-not-is_for.ensures in
    on_err c.from_residual-in_err-convert_blocks.result
    (blocks_begun c.args.identity c.in_ok-head.head.name c.in_ok-head.head.fti c.coefficients_of-count.ensures.valid c.in_ok-head.ensures.name _ _ c.in_ok-head.ensures.ok own _ _ _
    c.in_ok-write_head.ensures.ok c.in_err-convert_blocks.ensures.begun)

pub returns-in_err-pass_over-2-clause-begun : goal.returns-in_err-pass_over-2-clause-begun
returns-in_err-pass_over-2-clause-begun g c =
    let own : is_for c.args.identity c.in_ok-head.head.name ≡ true = sym c.if-not-is_for.ensures in
    let name = c.in_ok-head.head.name in
    let f = c.in_ok-head.head.fti in
    on_err c.from_residual-in_err-pass_over-2.result
    (blocks_begun c.args.identity name f c.coefficients_of-count.ensures.valid c.in_ok-head.ensures.name _ _ c.in_ok-head.ensures.ok own _ _ _
    c.in_ok-write_head.ensures.ok (some_converted name f (block_count f) _ _ _ _ (omega arith) c.in_ok-convert_blocks.ensures.ok))

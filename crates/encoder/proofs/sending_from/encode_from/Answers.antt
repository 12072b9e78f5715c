use Rattle.std.proofs.Common.{[], sym, arith}
use Rattle.std.proofs.lemmas.List.{append-nil}
use Rattle.partition.specs.Fti.{block_count}
use Rattle.partition.specs.declared.order.Order.TheVariants.{Blocks}
use Rattle.partition.proofs.Laws.{some_block}
use Rattle.certificate.proofs.Results.{passed_on}
use Rattle.encoder.specs.declared.sending_from.SendFromFault.TheVariants.{Object}
use Rattle.encoder.specs.Sending.{pairs}
use Rattle.encoder.proofs.Sent.{sent_some}
use Rattle.encoder.proofs.ObjectBlocks.{so_far, object_read, end_fault}
use Rattle.encoder.proofs.sending_from.encode_from.Goals as goal

pub k-requires : goal.k-requires
k-requires g c = some_block c.args.fti.now c.symbol_length.ensures.valid

pub n-requires : goal.n-requires
n-requires g c = some_block c.args.fti.now c.symbol_length.ensures.valid

pub returns-in_err-read_end-clause-fault : goal.returns-in_err-read_end-clause-fault
returns-in_err-read_end-clause-fault g c =
    let f = c.args.fti.now in
    let valid = c.symbol_length.ensures.valid in
    let e = c.in_err-read_end.field-0.0 in
    passed_on c.from_residual-in_err-read_end.result (Object e) _ c.from_residual-in_err-read_end.ensures.1 (
      end_fault f valid _ _ _ c.in_ok-count.ensures.ok e _ _ _ c.in_err-read_end.ensures.more c.in_err-read_end.ensures.io c.in_ok-count.ensures.stays,
      record {
        short = omega arith;
        begins = so_far f valid (block_count f) _ _ _ c.in_ok-count.ensures.ok _
            (λ object done. sent_some object f c.args.tsi c.args.toi c.args.every 0 (pairs Blocks f) [] _ _ _ (sym (append-nil (pairs Blocks f))) done);
      },
    )

pub returns-clause-sent : goal.returns-clause-sent
returns-clause-sent g c = object_read c.args.fti.now c.symbol_length.ensures.valid _ _ _ c.in_ok-count.ensures.ok c.in_ok-read_end.ensures.none

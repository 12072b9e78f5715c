use Rattle.partition.proofs.Laws.{some_block}
use Rattle.reception.specs.Symbols.{IsObject}
use Rattle.block_code.proofs.SourceRows.{bytes_fit}
use Rattle.encoder.proofs.FirstRows.{certified, behind_head, head_begun}
use Rattle.encoder.proofs.certifying.certify_to.Goals as goal

pub k-requires : goal.k-requires
k-requires g c = some_block c.args.fti.now c.symbol_length.ensures.valid

pub returns-in_default-write_head-clause-fault : goal.returns-in_default-write_head-clause-fault
returns-in_default-write_head-clause-fault g c =
    (c.in_ok-interpolators.ensures.whole, head_begun c.args.object.now c.args.fti.now _ _ _ c.in_default-write_head.ensures.err, c.in_default-write_head.ensures.fails)

pub returns-in_default-write_rows-clause-fault : goal.returns-in_default-write_rows-clause-fault
returns-in_default-write_rows-clause-fault g c = (
  c.in_ok-interpolators.ensures.whole,
  behind_head c.args.object.now c.args.fti.now _ _ _ _ c.in-Ok-write_head.ensures.ok c.in_default-write_rows.ensures.err,
  c.in_default-write_rows.ensures.fails,
)

pub returns-clause-certified : goal.returns-clause-certified
returns-clause-certified g c =
    let form : IsObject c.args.fti.now c.args.object.now = record { count = c.in_ok-interpolators.ensures.whole; bytes = bytes_fit c.args.object.now c.type_inv.object } in
    certified c.args.object.now c.args.fti.now c.symbol_length.ensures.valid c.args.identity _ _ _ form c.in-Ok-write_head.ensures.ok c.in-Ok-write_rows.ensures.ok

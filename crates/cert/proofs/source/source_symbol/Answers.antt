use Rattle.std.proofs.Common.{arith}
use Rattle.partition.proofs.Laws.{symbol_end, padded_below, start_fits, counts}
use Rattle.cert.proofs.source.source_symbol.Goals as goal

pub overflow_add-from : goal.overflow_add-from
overflow_add-from c =
    let valid = c.symbol_length.ensures.valid in
    omega (arith, c.start.ensures.value, c.requires.source, start_fits c.args.fti.now valid c.args.block c.requires.block, counts c.args.fti.now valid c.args.block c.requires.block)

pub overflow_mul-from : goal.overflow_mul-from
overflow_mul-from c =
    let valid = c.symbol_length.ensures.valid in
    let end = symbol_end c.args.fti.now valid c.args.block c.args.i c.requires.block c.requires.source in
    rw (c.start.ensures.value, c.from-length.ensures, c.symbol_length.ensures.value) (omega (arith, end, padded_below c.args.fti.now valid))

use Rattle.std.proofs.Common.{arith}
use Rattle.partition.proofs.Laws.{begins_within}
use Rattle.cert.proofs.twins.begin_of.Goals as goal

pub overflow_mul-result : goal.overflow_mul-result
overflow_mul-result c =
    let valid = c.symbol_length.ensures.valid in
    let begins = begins_within c.args.fti.now valid c.args.block c.requires in
    rw (c.start.ensures.value, c.from.ensures, c.symbol_length.ensures.value) (omega (arith, begins, valid.length_below))

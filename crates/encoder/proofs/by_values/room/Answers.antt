use Rattle.partition.proofs.Laws.{some_block}
use Rattle.encoder.proofs.by_values.room.Goals as goal

pub k-requires : goal.k-requires
k-requires c = some_block c.args.fti.now c.symbol_length.ensures.valid

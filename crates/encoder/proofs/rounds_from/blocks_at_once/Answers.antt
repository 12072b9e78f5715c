use Rattle.partition.proofs.Laws.{some_block}
use Rattle.encoder.proofs.rounds_from.blocks_at_once.Goals as goal

pub n-requires : goal.n-requires
n-requires c = some_block c.args.fti.now c.symbol_length.ensures.valid

use Rattle.partition.proofs.Laws.{some_block}
use Rattle.certified_symbols.proofs.block_symbols.BlockSymbols.new.Goals as goal

pub n-requires : goal.n-requires
n-requires c = some_block c.fti-fti.result c.symbol_length.ensures.valid

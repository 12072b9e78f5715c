use Rattle.partition.proofs.Laws.{some_block}
use Rattle.encoder.proofs.sending.most_at_once.Goals as goal

pub n-requires : goal.n-requires
n-requires c = some_block c.args.fti.now c.requires

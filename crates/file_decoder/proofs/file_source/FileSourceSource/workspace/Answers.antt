use Rattle.partition.proofs.Laws.{some_block}
use Rattle.file_decoder.proofs.file_source.FileSourceSource.workspace.Goals as goal

pub n-requires : goal.n-requires
n-requires g c = some_block c.args.self.now.indexed.now.fti c.is_valid.ensures

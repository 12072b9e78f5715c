use Rattle.block_bytes.proofs.BlocksInFile.{cut_is, on_ok}
use Rattle.block_bytes.proofs.file_blocks.FileBlocks.finish.Goals as goal

pub returns-clause-object : goal.returns-clause-object
returns-clause-object g c = on_ok c.set_len-cut.result _ _ (cut_is c.args.fti.now c.transfer_length.ensures.valid _ _) (rw (c.transfer_length.ensures.value) at c.set_len-cut.ensures.resized)

use Rattle.block_bytes.proofs.BlocksInFile.{blank_long}
use Rattle.block_bytes.proofs.file_blocks.FileBlocks.new.Goals as goal

pub invariant_of-result-clause-long : goal.invariant_of-result-clause-long
invariant_of-result-clause-long g c = blank_long _ c.requires.empty

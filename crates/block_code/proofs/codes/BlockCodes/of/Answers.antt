use Rattle.std.proofs.Common.{rules}
use Rattle.block_code.proofs.codes.BlockCodes.of.Goals as goal

pub returns-then-rows-k : goal.returns-then-rows-k
returns-then-rows-k c = search rules

pub returns-else-rows-k : goal.returns-else-rows-k
returns-else-rows-k c = search rules

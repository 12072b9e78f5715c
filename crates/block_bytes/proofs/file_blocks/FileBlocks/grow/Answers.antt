use Rattle.std.proofs.Common.{arith, subst}
use Rattle.streams.specs.Offsets.{Resizes}
use Rattle.block_bytes.proofs.BlocksInFile.{grown_keeps}
use Rattle.block_bytes.proofs.file_blocks.FileBlocks.grow.Goals as goal

pub returns-in_ok-set_len-clause-stays : goal.returns-in_ok-set_len-clause-stays
returns-in_ok-set_len-clause-stays g c = grown_keeps _ _ c.args.self.now.len c.args.len c.args.self.now.long (omega (arith, c.if-self-len.true)) (subst (λ o. Resizes (g.W.Write.contents o) (g.W.Write.contents c.set_len.new.self) c.args.len) c.forget.ensures.output c.in_ok-set_len.ensures.resized)

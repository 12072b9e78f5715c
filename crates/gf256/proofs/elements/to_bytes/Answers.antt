use Rattle.std.proofs.Common.{arith}
use Rattle.gf256.proofs.RowLoop.{whole_copy}
use Rattle.gf256.proofs.elements.to_bytes.Goals as goal

pub returns : goal.returns
returns c = whole_copy c.args.elements.now c.loop-i.i c.loop-i.bytes (omega arith) (omega arith) c.loop-i.invariant

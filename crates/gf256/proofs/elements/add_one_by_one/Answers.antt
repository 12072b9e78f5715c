use Rattle.std.proofs.Common.{arith}
use Rattle.gf256.proofs.RowLoop.{whole_row}
use Rattle.gf256.proofs.elements.add_one_by_one.Goals as goal

pub returns : goal.returns
returns c = whole_row c.args.c c.args.other.now c.loop-i.i c.args.row.now c.loop-i.row c.requires (omega arith) (omega arith) c.loop-i.invariant

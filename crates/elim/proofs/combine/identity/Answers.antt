use Rattle.std.proofs.Common.{◌≡◌, arith}
use Rattle.elim.proofs.Filling.{filled_row}
use Rattle.elim.proofs.combine.identity.Goals as goal

pub loop-i-preserved : goal.loop-i-preserved
loop-i-preserved g c =
    let e : c.loop-j.j ≡ c.args.size = omega arith in
    record {
      shape = c.loop-j.invariant.shape;
      elements = c.loop-j.invariant.elements;
      filled = filled_row (c.args.size) c.loop-i.i _ _ (rw e at c.loop-j.invariant.filled);
    }

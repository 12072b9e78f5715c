use Rattle.std.proofs.Common.{ap, arith, length}
use Rattle.partition.specs.Fti.{encoding_count}
use Rattle.receiver.specs.Holds.{kept_of}
use Rattle.receiver.proofs.Pending.{kept_count, none_past}
use Rattle.receiver.proofs.store.Store.stored.Goals as goal

-- nothing stands in a block that the object doesn't have
pub returns-then-block-block_count : goal.returns-then-block-block_count
returns-then-block-block_count c = λ bytes at holds.
    let f = c.args.self.now.fti in
    omega (arith, none_past f at holds.within c.args.block (omega (arith, c.if-block-block_count.true, c.block_count.ensures.value)) (encoding_count f c.args.block))

pub returns : goal.returns
returns c = λ bytes at holds.
    let s = c.args.self.now in
    let b = c.args.block in
    omega (arith, c.min.ensures, ap length c.get.ensures, c.k.ensures.value, kept_count s.fti b (bytes b) (kept_of s b) (at b) (holds.blocks b))

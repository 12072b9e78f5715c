use Rattle.gf256.proofs.RowLoop.{in_parts}
use Rattle.gf256.proofs.rows.add_scaled.Goals as goal

pub returns : goal.returns
returns c =
    rw (c.add_blocks.ensures, c.add_bytes-2.ensures, c.split_at_mut-dst_blocks.ensures.front, c.split_at_mut-dst_blocks.ensures.back, c.split_at.ensures.front, c.split_at.ensures.back)
    (in_parts c.args.c _ c.args.dst.now c.args.src.now c.requires)

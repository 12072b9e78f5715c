use Rattle.std.proofs.Common.{◌∙◌, ℕ, take, ap}
use Rattle.std.proofs.lemmas.List.{take_min}
use Rattle.partition.specs.Fti.{block_bytes}
use Rattle.block_bytes.proofs.held_blocks.HeldBlocks.part.Goals as goal

pub returns : goal.returns
returns c =
    let f = c.args.fti.now in
    ap (λ (n : ℕ). take n c.block-bytes.result.now) c.min.ensures ∙ take_min c.block_bytes.result c.block-bytes.result.now
    ∙ ap (λ (n : ℕ). take n c.block-bytes.result.now) c.block_bytes.ensures.value
    ∙ ap (take (block_bytes f c.args.b)) c.block-bytes.ensures

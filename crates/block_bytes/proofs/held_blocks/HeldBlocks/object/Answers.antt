use Rattle.std.proofs.Common.{◌∙◌, ◌++◌, ℕ, List, ap, sym}
use Rattle.block_bytes.specs.Held.{held_of}
use Rattle.block_bytes.specs.Parts.{object_below}
use Rattle.block_bytes.proofs.ObjectParts.{nothing_below, part_more}
use Rattle.block_bytes.proofs.held_blocks.HeldBlocks.object.Goals as goal

pub loop-b-init : goal.loop-b-init
loop-b-init c = c.in_ok-object.ensures.items ∙ sym (nothing_below c.args.fti.now (held_of c.args.self.now))

pub loop-b-preserved : goal.loop-b-preserved
loop-b-preserved c =
    c.in_ok-extend_from_slice.ensures.items ∙ ap (λ (l : List ℕ). l ++ c.part.result.now) c.loop-b.invariant
    ∙ ap (λ (l : List ℕ). object_below c.args.fti.now (held_of c.args.self.now) c.loop-b.b ++ l) c.part.ensures ∙ sym (part_more c.args.fti.now (held_of c.args.self.now) c.loop-b.b)

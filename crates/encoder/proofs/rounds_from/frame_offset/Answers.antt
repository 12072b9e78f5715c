use Rattle.std.proofs.Common.{◌+◌, ◌*◌, ℕ, ap, sym, ◌∙◌}
use Rattle.std.specs.Int.{div_ceil}
use Rattle.encoder.proofs.FrameOffsets.{offset_by_carriers}
use Rattle.encoder.proofs.rounds_from.frame_offset.Goals as goal

pub returns : goal.returns
returns c =
    let f = c.args.fti.now in
    ap (λ (e : ℕ). c.args.place * (22 + e) + c.div_ceil.result * 12) (c.from.ensures ∙ c.symbol_length.ensures.value)
    ∙ ap (λ (n : ℕ). c.args.place * (22 + f.symbol_length) + n * 12) (c.div_ceil.ensures ∙ ap (div_ceil c.args.place) c.from-2.ensures)
    ∙ sym (offset_by_carriers f c.args.every c.requires.every c.args.place)

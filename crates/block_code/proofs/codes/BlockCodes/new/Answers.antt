use Rattle.std.proofs.Common.{◌∙◌, ◌-◌, ℕ, ap, sym, subst}
use Rattle.partition.specs.Fti.{source_count}
use Rattle.block_code.specs.Codes.{IsOfBlock}
use Rattle.block_code.proofs.Sizes.{one_size, both_sizes}
use Rattle.block_code.proofs.codes.BlockCodes.new.Goals as goal

pub returns-then-k : goal.returns-then-k
returns-then-k c =
    let f = c.args.fti.now in
    let last = ap (λ (n : ℕ). source_count f (n - 1)) c.block_count-last.ensures.value in
    one_size c.args.kind f c.block_count-last.ensures.valid c.in_ok-large.large c.in_ok-large.ensures
    (sym last ∙ sym c.k.ensures.value ∙ c.if-k.true ∙ c.k-2.ensures.value)

pub returns : goal.returns
returns c =
    let f = c.args.fti.now in
    let last = ap (λ (n : ℕ). source_count f (n - 1)) c.block_count-last.ensures.value in
    both_sizes c.args.kind f c.block_count-last.ensures.valid c.in_ok-large.large c.in_ok-large.ensures c.in_ok-small.small
    (λ h. c.if-k.false (c.k.ensures.value ∙ last ∙ h ∙ sym c.k-2.ensures.value))
    (subst (λ (n : ℕ). IsOfBlock c.args.kind f (n - 1) c.in_ok-small.small.matrix) c.block_count-last.ensures.value c.in_ok-small.ensures)

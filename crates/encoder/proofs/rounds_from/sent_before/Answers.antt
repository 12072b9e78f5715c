use Rattle.std.proofs.Common.{◌≡◌, ◌-◌, ℕ, ap, arith, ◌∙◌, sym}
use Rattle.partition.specs.Fti.{encoding_count, block_count}
use Rattle.encoder.proofs.RoundPlaces.{in_all, in_large, in_none}
use Rattle.encoder.proofs.rounds_from.sent_before.Goals as goal

pub returns-then-esi-n : goal.returns-then-esi-n
returns-then-esi-n c =
    let f = c.args.fti.now in
    let last : c.n.result ≡ encoding_count f (block_count f - 1) = c.n.ensures.value ∙ ap (λ (n : ℕ). encoding_count f (n - 1)) c.block_count.ensures.value in
    c.from-blocks.ensures ∙ sym (in_all f c.block_count.ensures.valid c.args.esi c.args.block (omega (arith, last, c.if-esi-n.true, c.from-esi.ensures)))

pub returns-then-esi-n-2 : goal.returns-then-esi-n-2
returns-then-esi-n-2 c =
    let f = c.args.fti.now in
    let last : c.n.result ≡ encoding_count f (block_count f - 1) = c.n.ensures.value ∙ ap (λ (n : ℕ). encoding_count f (n - 1)) c.block_count.ensures.value in
    let is = in_large f c.block_count.ensures.valid c.args.esi c.args.block (omega (arith, last, c.if-esi-n.false, c.from-esi.ensures)) (omega (arith, c.n-else-esi-n.ensures.value, c.if-esi-n-2.true, c.from-esi.ensures)) in
    omega (arith, is, c.min.ensures, c.from-blocks.ensures, c.large_blocks.ensures)

pub returns-else-esi-n-2 : goal.returns-else-esi-n-2
returns-else-esi-n-2 c =
    let f = c.args.fti.now in
    sym (in_none f c.block_count.ensures.valid c.args.esi c.args.block (omega (arith, c.n-else-esi-n.ensures.value, c.if-esi-n-2.false, c.from-esi.ensures)))

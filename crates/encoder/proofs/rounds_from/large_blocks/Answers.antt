use Rattle.std.proofs.Common.{◌≡◌, ◌*◌, ◌-◌, ℕ, ap, ◌∙◌, arith}
use Rattle.partition.specs.Fti.{source_count, block_count}
use Rattle.partition.proofs.Laws.{shares, small_count}
use Rattle.encoder.proofs.RoundPlaces.{last_small}
use Rattle.encoder.proofs.rounds_from.large_blocks.Goals as goal

pub overflow_sub-result : goal.overflow_sub-result
overflow_sub-result c =
    let f = c.args.fti.now in
    let valid = c.block_count-blocks.ensures.valid in
    let blocks : c.from.result ≡ block_count f = c.from.ensures ∙ c.block_count-blocks.ensures.value in
    let small : c.k.result ≡ small_count f = c.k.ensures.value ∙ ap (λ (n : ℕ). source_count f (n - 1)) c.block_count-blocks.ensures.value ∙ last_small f valid in
    let whole : c.k.result * c.from.result ≡ small_count f * block_count f = ap (λ (n : ℕ). n * c.from.result) small ∙ ap (λ (n : ℕ). small_count f * n) blocks in
    omega (arith, whole, shares f valid, c.symbol_count.ensures.value)

pub returns : goal.returns
returns c =
    let f = c.args.fti.now in
    let valid = c.block_count-blocks.ensures.valid in
    let blocks : c.from.result ≡ block_count f = c.from.ensures ∙ c.block_count-blocks.ensures.value in
    let small : c.k.result ≡ small_count f = c.k.ensures.value ∙ ap (λ (n : ℕ). source_count f (n - 1)) c.block_count-blocks.ensures.value ∙ last_small f valid in
    let whole : c.k.result * c.from.result ≡ small_count f * block_count f = ap (λ (n : ℕ). n * c.from.result) small ∙ ap (λ (n : ℕ). small_count f * n) blocks in
    omega (arith, whole, shares f valid, c.symbol_count.ensures.value)

use Rattle.std.proofs.Common.{◌≡◌, ℕ, ap, ◌∙◌, refl, arith}
use Rattle.lists.specs.Below.{below}
use Rattle.partition.specs.Fti.{block_count}
use Rattle.encoder.specs.RoundPlaces.{sent_before, place_of}
use Rattle.encoder.proofs.RoundPlaces.{before_few, round_start, round_end, last_place}
use Rattle.encoder.proofs.rounds_from.datagram_count.Goals as goal

pub loop-esi-init : goal.loop-esi-init
unfolding below
loop-esi-init c = record { count = refl; few = omega arith }

pub overflow_add-count : goal.overflow_add-count
overflow_add-count c =
    let f = c.args.fti.now in
    omega (arith, c.sent_before-count.ensures, before_few f c.loop-esi.esi c.block_count.result, c.block_count.ensures.few, c.loop-esi.invariant.few, c.loop-esi-test.true)

pub loop-esi-preserved : goal.loop-esi-preserved
loop-esi-preserved c =
    let f = c.args.fti.now in
    let all : c.sent_before-count.result ≡ sent_before f c.loop-esi.esi (block_count f) = c.sent_before-count.ensures ∙ ap (sent_before f c.loop-esi.esi) c.block_count.ensures.value in
    record {
      count = omega (arith, c.loop-esi.invariant.count, round_start f c.loop-esi.esi, round_end f c.loop-esi.esi, all);
      few = omega (arith, all, before_few f c.loop-esi.esi (block_count f), c.block_count.ensures.few, c.block_count.ensures.value, c.loop-esi.invariant.few);
    }

pub returns : goal.returns
returns c =
    let f = c.args.fti.now in
    let end : c.loop-esi.esi ≡ f.max_symbols = omega (arith, c.loop-esi-test.false, c.loop-esi.auto.esi-end, c.max_symbols-esi-end.ensures.value) in
    c.loop-esi.invariant.count ∙ ap (λ (j : ℕ). place_of f j 0) end ∙ last_place f

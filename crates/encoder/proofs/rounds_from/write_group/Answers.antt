use Rattle.std.proofs.Common.{◌≡◌, ◌≤◌, ◌^◌, ap, ◌∙◌, refl, arith}
use Rattle.lists.specs.Below.{below}
use Rattle.partition.specs.Fti.{block_count}
use Rattle.encoder.specs.RoundPlaces.{sent_before}
use Rattle.encoder.proofs.RoundPlaces.{before_few, round_start, round_end}
use Rattle.encoder.proofs.FramesSent.{group_begins, group_ends}
use Rattle.encoder.proofs.rounds_from.write_group.Goals as goal

pub loop-esi-init : goal.loop-esi-init
unfolding below
loop-esi-init g c =
    let t = c.args.t.now in
    record {
      frames = λ object made h. group_begins object t.fti t.tsi t.toi t.every c.args.group.first c.args.group.count _ h;
      start = refl;
      few = omega arith;
      long = c.requires.long;
      told = refl;
    }

pub overflow_add-place : goal.overflow_add-place
overflow_add-place g c =
    let f = c.args.t.now.fti in
    let few : c.sent_before.result ≤ 2 ^ 24 = omega (arith, c.sent_before.ensures, before_few f c.loop-esi.esi c.args.group.first, c.requires.blocks, c.args.t.now.valid.blocks) in
    record { fits = omega (arith, few, c.loop-esi.invariant.few, c.loop-esi-test.true, c.max_symbols-esi-end.ensures.bounds) }

pub write_run-requires-clause-place : goal.write_run-requires-clause-place
write_run-requires-clause-place g c =
    let f = c.args.t.now.fti in
    omega (arith, c.loop-esi.invariant.start, c.sent_before.ensures, round_start f c.loop-esi.esi)

pub overflow_add-start : goal.overflow_add-start
overflow_add-start g c =
    let f = c.args.t.now.fti in
    let few : c.sent_before-start.result ≤ 2 ^ 24 = omega (arith, c.sent_before-start.ensures, before_few f c.loop-esi.esi c.block_count.result, c.block_count.ensures.few) in
    record { fits = omega (arith, few, c.loop-esi.invariant.few, c.loop-esi-test.true, c.max_symbols-esi-end.ensures.bounds) }

pub loop-esi-preserved : goal.loop-esi-preserved
loop-esi-preserved g c =
    let f = c.args.t.now.fti in
    let all : c.sent_before-start.result ≡ sent_before f c.loop-esi.esi (block_count f) = c.sent_before-start.ensures ∙ ap (sent_before f c.loop-esi.esi) c.block_count.ensures.value in
    let few : c.sent_before-start.result ≤ 2 ^ 24 = omega (arith, c.sent_before-start.ensures, before_few f c.loop-esi.esi c.block_count.result, c.block_count.ensures.few) in
    record {
      frames = λ object made h. c.in_ok-write_run.ensures.frames object made (c.loop-esi.invariant.frames object made h);
      start = omega (arith, c.loop-esi.invariant.start, all, round_start f c.loop-esi.esi, round_end f c.loop-esi.esi);
      few = omega (arith, few, c.loop-esi.invariant.few);
      long = c.in_ok-write_run.ensures.long;
      told = c.in_ok-write_run.ensures.told ∙ c.loop-esi.invariant.told;
    }

pub returns-clause-frames : goal.returns-clause-frames
returns-clause-frames g c = λ object made h.
    let t = c.args.t.now in
    let f = t.fti in
    let end : c.loop-esi.esi ≡ f.max_symbols = omega (arith, c.loop-esi-test.false, c.loop-esi.auto.esi-end, c.max_symbols-esi-end.ensures.value) in
    let all = rw end at (c.loop-esi.invariant.frames object made h) in
    group_ends object f t.tsi t.toi t.every t.valid c.args.group.first c.args.group.count _ all

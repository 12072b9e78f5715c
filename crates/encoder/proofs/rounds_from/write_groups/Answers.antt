use Rattle.std.proofs.Common.{◌≡◌, ◌<◌, ◌≤◌, ◌+◌, ◌*◌, ◌∙◌, ℕ, List, refl, sym, subst, arith}
use Rattle.std.proofs.Math.Nat.{mul-le-mul_right}
use Rattle.partition.specs.Fti.{block_count}
use Rattle.encoder.specs.RoundPlaces.{AreSymbolsAt, AreSymbolsOf, HasFrames, progress}
use Rattle.encoder.proofs.ObjectBlocks.{none_read}
use Rattle.encoder.proofs.FramesSent.{none_written}
use Rattle.encoder.proofs.Groups.{symbols_more, then_read, block_more}
use Rattle.encoder.proofs.rounds_from.write_groups.Goals.{then-group-at_once+in-Ok, else-group-at_once+else-block-blocks}
use Rattle.encoder.proofs.rounds_from.write_groups.Goals as goal

pub loop-block-init : goal.loop-block-init
loop-block-init g c =
    let t = c.args.t.now in
    record {
      read = none_read t.fti _ _ (λ object. (none_written object t.fti t.tsi t.toi t.every _ c.requires.long, λ i lt. absurd (omega arith)));
      at = refl;
      few = c.requires.some;
      ends = λ e. refl;
      long = c.requires.long;
      told = refl;
      stays = refl;
    }

pub write_group-requires-clause-room : goal.write_group-requires-clause-room
write_group-requires-clause-room g c =
    let f = c.args.t.now.fti in
    let most : (c.loop-block.group.count + 1) * (34 + f.symbol_length) ≤ c.args.at_once * (34 + f.symbol_length) = mul-le-mul_right (34 + f.symbol_length) (omega (arith, c.loop-block.invariant.few)) in
    omega (arith, most, c.requires.room, c.loop-block.auto.run)

pub loop-block-preserved : goal.loop-block-preserved
loop-block-preserved g c =
    let t = c.args.t.now in
    let f = t.fti in
    let first : ℕ = c.loop-block.group.first in
    let count : ℕ = c.loop-block.group.count in
    let b : ℕ = c.loop-block.block in
    let inside : c.loop-block.block < block_count f = omega (arith, c.loop-block-test.true, c.block_count-blocks.ensures.value) in
    let at : c.loop-block.block ≡ first + count = sym c.loop-block.invariant.at in
    let made : (object : List ℕ) → AreSymbolsAt object f count b c.make_block.new.symbols → AreSymbolsOf object f first count c.loop-block.symbols → AreSymbolsOf object f first (count + 1) c.make_block.new.symbols =
    λ object own before.
    symbols_more object f t.valid first count c.loop-block.symbols c.make_block.new.symbols c.make_block.auto.symbols c.in_ok-make_block.ensures.before before
    (subst (λ (n : ℕ). AreSymbolsAt object f count n c.make_block.new.symbols) at own) in
    elim c.if-group-at_once.branch [
      | then-group-at_once+in-Ok w ↦ rw (w.writer-is, w.group-is) (record {
        read = block_more f t.valid b _ _ _ _ _ _ c.loop-block.invariant.read inside c.in_ok-make_block.ensures.read
            (λ object own before. (
              subst (λ (n : ℕ). HasFrames object f t.tsi t.toi t.every (progress n 0 0) (g.W.Write.contents w.write_group.new.writer))
                  (let next : first + (count + 1) ≡ b + 1 = omega (arith, at) in next)
                  (w.in-Ok.ensures.frames object (made object own before.1) before.0),
              λ i lt. absurd (omega arith),
            ));
        at = omega arith;
        few = c.requires.some;
        ends = λ e. refl;
        long = w.in-Ok.ensures.long;
        told = w.in-Ok.ensures.told ∙ c.loop-block.invariant.told;
        stays = c.in_ok-make_block.ensures.stays ∙ c.loop-block.invariant.stays;
      })
      | else-group-at_once+else-block-blocks w ↦ rw (w.writer-is, w.group-is) (record {
        read = block_more f t.valid b _ _ _ _ _ _ c.loop-block.invariant.read inside c.in_ok-make_block.ensures.read
            (λ object own before. (before.0, made object own before.1));
        at = omega (arith, at);
        few = omega (arith, c.loop-block.invariant.few, w.if-group-at_once.false);
        ends = λ e. absurd (omega (arith, e, w.if-block-blocks.false, c.block_count-blocks.ensures.value));
        long = c.loop-block.invariant.long;
        told = c.loop-block.invariant.told;
        stays = c.in_ok-make_block.ensures.stays ∙ c.loop-block.invariant.stays;
      })
    ]

pub returns-clause-ok : goal.returns-clause-ok
returns-clause-ok g c =
    let t = c.args.t.now in
    let f = t.fti in
    let end : c.loop-block.block ≡ block_count f = omega (arith, c.loop-block-test.false, c.loop-block.auto.block-end, c.block_count-blocks.ensures.value) in
    let none = c.loop-block.invariant.ends end in
    let first : c.loop-block.group.first ≡ block_count f = omega (arith, end, none, c.loop-block.invariant.at) in
    then_read f (block_count f) _ _ _ _
    (λ object h. subst (λ (n : ℕ). HasFrames object f t.tsi t.toi t.every (progress n 0 0) (g.W.Write.contents c.loop-block.writer)) first h.0)
    (rw end at c.loop-block.invariant.read)

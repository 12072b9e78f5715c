use Rattle.std.proofs.Common.{subst, arith, below_more}
use Rattle.partition.specs.Fti.{IsValidFti}
use Rattle.block_recovery.specs.Decoded.{IsEnoughAt}
use Rattle.decoder.proofs.Shortest.{counted_short}
use Rattle.decoder.proofs.Unsound.{enough_counted}
use Rattle.decoder.proofs.counting.first_short.Goals as goal

pub loop-block-preserved : goal.loop-block-preserved
loop-block-preserved g c =
    let f = g.S.Source.known c.args.source.now in
    let at = g.S.Source.at c.args.source.now in
    below_more (λ a. IsEnoughAt (g.S.Source.known c.args.source.now) a (g.S.Source.at c.args.source.now a)) _ c.loop-block.invariant
    (enough_counted f at c.loop-block.block c.n.result c.count-have.result (rw c.fti-fti.ensures at c.n.ensures.value) c.count-have.ensures
    (let need = rw c.fti-fti.ensures at c.k-need.ensures.value in omega (arith, c.if-have-need.false, need)))

pub returns-then-have-need : goal.returns-then-have-need
returns-then-have-need g c =
    let f = g.S.Source.known c.args.source.now in
    let many = rw c.fti-fti.ensures at c.block_count-block-end.ensures.value in
    record {
      short = counted_short f (subst IsValidFti c.fti-fti.ensures c.block_count-block-end.ensures.valid) (g.S.Source.at c.args.source.now)
          (record { block = c.loop-block.block; have = c.count-have.result; need = c.k-need.result }) c.n.result (omega (arith, many, c.loop-block-test.true))
          (rw c.fti-fti.ensures at c.n.ensures.value) c.count-have.ensures (rw c.fti-fti.ensures at c.k-need.ensures.value) c.if-have-need.true c.loop-block.invariant;
      enough = tt;
    }

pub returns-clause-enough : goal.returns-clause-enough
returns-clause-enough g c = λ b hb.
    let many = rw c.fti-fti.ensures at c.block_count-block-end.ensures.value in
    c.loop-block.invariant b (omega (arith, many, hb, c.loop-block-test.false))

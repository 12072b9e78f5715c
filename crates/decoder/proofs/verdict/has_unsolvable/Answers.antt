use Rattle.std.proofs.Common.{suc, ◌<◌, arith, ◌∙◌, subst, below_more}
use Rattle.partition.specs.Fti.{IsValidFti, block_count}
use Rattle.decoder.specs.Unsolvable.{IsSound}
use Rattle.decoder.proofs.Answering.{within_of}
use Rattle.decoder.proofs.JustEnough.{just_enough}
use Rattle.decoder.proofs.OneCode.{code_of}
use Rattle.decoder.proofs.Unsound.{some_explain}
use Rattle.decoder.proofs.verdict.has_unsolvable.Goals as goal

pub loop-b-preserved-then-count-k : goal.loop-b-preserved-then-count-k
loop-b-preserved-then-count-k g c =
    let f = g.S.Source.known c.args.coded.now.source.now in
    let at = g.S.Source.at c.args.coded.now.source.now in
    let many = rw c.fti-fti.ensures at c.block_count-last.ensures.value in
    let next : suc c.loop-b.b < block_count (g.S.Source.known c.args.coded.now.source.now) = omega (arith, many) in
    record {
      sound = λ told. below_more (IsSound f at) _ (c.loop-b.invariant.sound told)
          (just_enough f (subst IsValidFti c.fti-fti.ensures c.is_valid.ensures) at (within_of f at (c.args.coded.now.stand told)) (c.args.coded.now.bytes told) c.loop-b.b c.n.result c.count.result next
          (rw c.fti-fti.ensures at c.n.ensures.value) c.count.ensures
          (c.if-count-k.true ∙ (rw c.fti-fti.ensures at c.k.ensures.value)));
      fits = c.loop-b.invariant.fits;
    }

pub rows-requires-clause-codes : goal.rows-requires-clause-codes
rows-requires-clause-codes g c =
    code_of (g.S.Source.known c.args.coded.now.source.now) (subst IsValidFti c.fti-fti.ensures c.is_valid.ensures) c.args.coded.now.codes.now c.args.coded.now.code

pub rows-requires-clause-within : goal.rows-requires-clause-within
rows-requires-clause-within g c = λ told.
    within_of (g.S.Source.known c.args.coded.now.source.now) (g.S.Source.at c.args.coded.now.source.now) (c.args.coded.now.stand told)

pub loop-b-preserved : goal.loop-b-preserved
loop-b-preserved g c =
    let f = g.S.Source.known c.args.coded.now.source.now in
    let at = g.S.Source.at c.args.coded.now.source.now in
    record {
      sound = λ told. below_more (IsSound f at) _ (c.loop-b.invariant.sound told)
          (λ enough. some_explain (λ v. v.bytes.items) f c.loop-b.b (at c.loop-b.b) c.in_ok-rows.field-0 (c.in_ok-rows.ensures.rows told) c.if-is_none.ensures);
      fits = c.rows.ensures.fits;
    }

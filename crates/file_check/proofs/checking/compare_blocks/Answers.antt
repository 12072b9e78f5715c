use Rattle.std.proofs.Common.{◌≡◌, ◌∙◌, ℕ, refl, inl, inr, subst, arith}
use Rattle.partition.specs.Fti.{block_count}
use Rattle.partition.proofs.Laws.{some_block}
use Rattle.certificate.specs.InFile.{certificate_in}
use Rattle.certificate.proofs.Results.{passed_on}
use Rattle.cert.specs.Tallying.{tallied_of}
use Rattle.file_check.specs.Compared.{AreCompared}
use Rattle.file_check.proofs.ManyBlocks.{first_of_all, none_yet, one_compared}
use Rattle.file_check.proofs.checking.compare_blocks.Goals as goal

pub loop-block-init : goal.loop-block-init
loop-block-init g c = record {
  same = c.in_ok-session.ensures;
  compared = λ x o text told_x told_o told_t ds index long. none_yet (certificate_in text c.args.files.now.certificate.fti c.args.files.now.certificate.name) o (tallied_of c.args.index.now.tally) ds;
}

pub n-requires : goal.n-requires
n-requires g c = some_block c.args.files.now.certificate.fti c.args.files.now.certificate.valid

pub returns-in_err-not_given-clause-fault : goal.returns-in_err-not_given-clause-fault
returns-in_err-not_given-clause-fault g c = λ x o text told_x told_o told_t ds index long.
    passed_on c.from_residual-in_err-not_given.result c.in_err-not_given.field-0.0 _ c.from_residual-in_err-not_given.ensures.1 (c.in_err-not_given.ensures.fault x o text told_x told_o told_t ds index long)

pub returns-in-Some-clause-against : goal.returns-in-Some-clause-against
returns-in-Some-clause-against g c = λ x o text told_x told_o told_t ds index long. (
    let z = certificate_in text c.args.files.now.certificate.fti c.args.files.now.certificate.name in
    let first = rw c.in-Some.is at (c.in_ok-not_given.ensures.not_given x o text told_x told_o told_t long) in
    inl (
      c.loop-block.block,
      c.in-Some.column,
      c.in-Some.symbol,
      refl,
      first_of_all z o (tallied_of c.args.index.now.tally) ds c.loop-block.block c.loop-block.wrong (c.loop-block.invariant.compared x o text told_x told_o told_t ds index long) c.in-Some.column
          c.in-Some.symbol (let l = c.loop-block-test.true in let e = c.block_count-block-end.ensures.value in omega (arith, l, e)) first,
    ))

pub loop-block-preserved : goal.loop-block-preserved
loop-block-preserved g c = record {
  same = c.compare_block.ensures.file ∙ c.loop-block.invariant.same;
  compared = λ x o text told_x told_o told_t ds index long.
      one_compared (certificate_in text c.args.files.now.certificate.fti c.args.files.now.certificate.name) o (tallied_of c.args.index.now.tally) ds c.loop-block.block c.loop-block.wrong
      (c.loop-block.invariant.compared x o text told_x told_o told_t ds index long) c.compare_block.new.wrong
      (c.in_ok-not_given.ensures.compared x o text told_x told_o told_t ds index long (rw c.in_default.is refl));
}

pub returns-in-Some-wrong-clause-against : goal.returns-in-Some-wrong-clause-against
returns-in-Some-wrong-clause-against g c = λ x o text told_x told_o told_t ds index long. (
    let z = certificate_in text c.args.files.now.certificate.fti c.args.files.now.certificate.name in
    let all : c.loop-block.block ≡ block_count c.args.files.now.certificate.fti =
    (let l = c.loop-block-test.false in let e = c.block_count-block-end.ensures.value in let most = c.loop-block.auto.block-end in omega (arith, l, e, most)) in
    let are = subst (λ (n : ℕ). AreCompared z o (tallied_of c.args.index.now.tally) ds n c.loop-block.wrong) all (c.loop-block.invariant.compared x o text told_x told_o told_t ds index long) in
    inr (c.in-Some-wrong.wrong, refl, rw c.in-Some-wrong.is at are))

pub returns-clause-compared : goal.returns-clause-compared
returns-clause-compared g c = λ x o text told_x told_o told_t ds index long none. (
    let z = certificate_in text c.args.files.now.certificate.fti c.args.files.now.certificate.name in
    let all : c.loop-block.block ≡ block_count c.args.files.now.certificate.fti =
    (let l = c.loop-block-test.false in let e = c.block_count-block-end.ensures.value in let most = c.loop-block.auto.block-end in omega (arith, l, e, most)) in
    rw c.in-None.is at
    (subst (λ (n : ℕ). AreCompared z o (tallied_of c.args.index.now.tally) ds n c.loop-block.wrong) all (c.loop-block.invariant.compared x o text told_x told_o told_t ds index long)))

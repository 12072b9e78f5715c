use Rattle.std.proofs.Common.{arith, inl, inr, sym, ◌∙◌}
use Rattle.alc.proofs.Steps.{ended, no_extension, wrong_length, second_fti, other_on, fti_on, ten_left}
use Rattle.alc.proofs.extensions.fti_content.Goals as goal
use Rattle.alc.proofs.extensions.fti_content.Goals.{then-size-eq0-via-then-size-eq0, then-size-eq0-via-else-size-eq0+then-rest-size}

pub returns-then-size-eq0-clause-fault : goal.returns-then-size-eq0-clause-fault
returns-then-size-eq0-clause-fault c =
    no_extension _ c.loop-rest.rest.now _ (grind arith)
    (elim c.then-size-eq0.branch [ then-size-eq0-via-then-size-eq0 w ↦ inl (omega arith) | then-size-eq0-via-else-size-eq0+then-rest-size w ↦ inr (omega arith) ])
    c.loop-rest.invariant.answer

pub returns-then-size-ne-EXT_FTI_SIZE-clause-fault : goal.returns-then-size-ne-EXT_FTI_SIZE-clause-fault
returns-then-size-ne-EXT_FTI_SIZE-clause-fault c =
    wrong_length _ c.loop-rest.rest.now c.size_in_front-size.result _ _ c.size_in_front-size.ensures c.split_at.ensures.front c.split_at.ensures.back c.if-size-eq0.false c.if-rest-size.false
    _ c.if-extension-eq-EXT_FTI.true c.if-size-ne-EXT_FTI_SIZE.true c.loop-rest.invariant.answer

pub returns-then-is_some-clause-fault : goal.returns-then-is_some-clause-fault
returns-then-is_some-clause-fault c =
    second_fti _ c.loop-rest.rest.now c.size_in_front-size.result _ _ c.size_in_front-size.ensures c.split_at.ensures.front c.split_at.ensures.back c.if-size-eq0.false c.if-rest-size.false
    (λ content. content.now) c.loop-rest.seen (sym c.is_some.ensures ∙ c.if-is_some.true) c.if-extension-eq-EXT_FTI.true c.if-size-ne-EXT_FTI_SIZE.false c.loop-rest.invariant.answer

pub loop-rest-preserved-else-is_some : goal.loop-rest-preserved-else-is_some
loop-rest-preserved-else-is_some c = record {
  answer = fti_on _ c.loop-rest.rest.now c.size_in_front-size.result _ _ c.size_in_front-size.ensures c.split_at.ensures.front c.split_at.ensures.back c.if-size-eq0.false c.if-rest-size.false
      (λ content. content.now) c.loop-rest.seen (sym c.is_some.ensures ∙ c.if-is_some.false) c.if-extension-eq-EXT_FTI.true c.if-size-ne-EXT_FTI_SIZE.false c.loop-rest.invariant.answer;
  ten = ten_left c.loop-rest.rest.now _ _ c.split_at.ensures.front c.if-rest-size.false c.if-size-ne-EXT_FTI_SIZE.false;
}

pub loop-rest-preserved : goal.loop-rest-preserved
loop-rest-preserved c = record {
  answer = other_on _ c.loop-rest.rest.now c.size_in_front-size.result _ _ c.size_in_front-size.ensures c.split_at.ensures.front c.split_at.ensures.back c.if-size-eq0.false c.if-rest-size.false
      _ c.if-extension-eq-EXT_FTI.false c.loop-rest.invariant.answer;
  ten = c.loop-rest.invariant.ten;
}

pub returns-clause-found : goal.returns-clause-found
returns-clause-found c = ended _ c.loop-rest.rest.now _ (grind arith) c.loop-rest.invariant.answer

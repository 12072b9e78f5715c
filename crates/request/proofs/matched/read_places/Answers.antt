use Rattle.request.proofs.Texts.{text_more, text_wrong}
use Rattle.request.proofs.matched.read_places.Goals as goal

pub returns-in_default-clause-fault : goal.returns-in_default-clause-fault
returns-in_default-clause-fault c =
    text_wrong c.args.texts.now c.loop-text.text-index _ c.loop-text.places.items c.loop-text-test.true c.loop-text.invariant c.in_default.ensures.none

pub loop-text-preserved : goal.loop-text-preserved
loop-text-preserved c =
    rw c.in-Ok.ensures.items
    (text_more c.args.texts.now c.loop-text.text-index _ c.loop-text.places.items c.in-Some.range c.loop-text-test.true c.loop-text.invariant c.in-Some.ensures.some)

use Rattle.std.proofs.Common.{◌<◌, ◌∙◌, subst, arith}
use Rattle.std.proofs.lemmas.List.{get_or_default}
use Rattle.session.specs.declared.range.PlaceRange.{PlaceRange}
use Rattle.session.proofs.PlaceRanges.{all_begun}
use Rattle.session.proofs.ranges.Begun.meet.Goals as goal

pub returns-then-range-place-clause-value : goal.returns-then-range-place-clause-value
returns-then-range-place-clause-value c =
    let here = c.index-ranges-begun.result in
    all_begun c.args.ranges.now c.loop-begun.begun.count c.loop-begun.begun.last c.args.place c.loop-begun.invariant
    (λ d l. subst (λ (r : PlaceRange). c.args.place < r.first) (c.index-ranges-begun.is ∙ get_or_default c.args.ranges.now c.loop-begun.begun.count here d l) (omega (arith, c.if-range-place.true)))

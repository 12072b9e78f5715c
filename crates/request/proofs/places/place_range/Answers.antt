use Rattle.std.proofs.Common.{◌≤◌, arith}
use Rattle.session.specs.declared.range.PlaceRange.{PlaceRange}
use Rattle.request.proofs.places.place_range.Goals as goal

pub returns-in_err-first-clause-none : goal.returns-in_err-first-clause-none
returns-in_err-first-clause-none c =
    rw c.from_residual.ensures (λ range is. c.in_err-first.ensures.none range.first ((c.ends.ensures range).0 is).0)

pub returns-in_err-last-clause-none : goal.returns-in_err-last-clause-none
returns-in_err-last-clause-none c =
    rw c.from_residual-in_err-last.ensures (λ range is. c.in_err-last.ensures.none range.last ((c.ends.ensures range).0 is).1)

pub returns-then-first-last-clause-none : goal.returns-then-first-last-clause-none
returns-then-first-last-clause-none c = λ range is.
    let places = (c.ends.ensures range).0 is in
    let first = places.0.value in
    let last = places.1.value in
    let first_too = c.in_ok-first.ensures.some.value in
    let last_too = c.in_ok-last.ensures.some.value in
    let ordered = range.ordered in
    omega (arith, first, last, first_too, last_too, ordered, c.if-first-last.true)

pub returns-clause-some : goal.returns-clause-some
returns-clause-some c =
    let order : c.in_ok-first.first ≤ c.in_ok-last.last = omega (arith, c.if-first-last.false) in
    let range : PlaceRange = record { first = c.in_ok-first.first; last = c.in_ok-last.last; ordered = order } in
    (c.ends.ensures range).1 (c.in_ok-first.ensures.some, c.in_ok-last.ensures.some)

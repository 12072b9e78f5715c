use Rattle.std.proofs.Common.{◌≡◌, ◌∙◌, ◌+◌, ◌≤◌, ◌++◌, ◌∷◌, [], ℕ, List, take, drop, sym, ap, subst, arith, length}
use Rattle.std.proofs.lemmas.List.{take_more, take-append-drop, take_all}
use Rattle.reception.specs.declared.scope.Identity.{Identity}
use Rattle.certificate.specs.Certificate.{Certificate}
use Rattle.cert.specs.Fed.{IsFed}
use Rattle.cert.specs.declared.checker.Checker.{Checker}
use Rattle.cert.specs.Verdict.{IsVerdict}
use Rattle.cert.specs.declared.verdict.Verdict.TheVariants.{No}
use Rattle.cert.proofs.FromReader.{datagrams_drop}
use Rattle.cert.proofs.checking.fed.Goals as goal

pub returns-in-Err-clause-no : goal.returns-in-Err-clause-no
returns-in-Err-clause-no c = (rw (c.in-Err.is, c.view.ensures) at c.in_ok-checker.ensures.no) c.args.session.now c.len-count.ensures.datagrams

pub returns-in-Ok-Some-clause-no : goal.returns-in-Ok-Some-clause-no
returns-in-Ok-Some-clause-no c =
    let ds = c.args.session.now in
    let n = c.loop-place.place in
    let front : take (c.loop-place.place + 1) ds ≡ take c.loop-place.place ds ++ c.get.result.now ∷ [] =
    take_more ds c.loop-place.place [] (let h = c.loop-place-test.true in let n = c.len-count.ensures.value in omega (arith, h, n))
    ∙ ap (λ (d : List ℕ). take c.loop-place.place c.args.session.now ++ d ∷ []) (sym c.get.ensures) in
    let no = rw (c.in-Ok-Some.is, c.in-Ok-Some.field-0-is) at (c.feed.ensures.reason c.args.identity c.args.object.now c.args.certificate.now (take c.loop-place.place ds) c.loop-place.invariant.fed) in
    subst (λ (xs : List (List ℕ)). IsVerdict c.args.identity xs c.args.object.now c.args.certificate.now (No c.in-Ok-Some.reason)) (take-append-drop (c.loop-place.place + 1) ds)
    ((rw (sym front) at no) (drop (c.loop-place.place + 1) ds) (datagrams_drop (c.loop-place.place + 1) ds c.len-count.ensures.datagrams))

-- all were fed
all : (checker : Checker) (who : Identity) (object : List ℕ) (z : Certificate) (ds : List (List ℕ)) (place : ℕ) → length ds ≤ place → IsFed checker who object z (take place ds) → IsFed checker who object z ds
all checker who object z ds place l h = subst (λ (xs : List (List ℕ)). IsFed checker who object z xs) (take_all place ds l) h

pub returns-clause-fed : goal.returns-clause-fed
returns-clause-fed c =
    all c.loop-place.checker c.args.identity c.args.object.now c.args.certificate.now c.args.session.now c.loop-place.place
    (let n = c.len-count.ensures.value in let h = c.loop-place-test.false in omega (arith, n, h)) c.loop-place.invariant.fed

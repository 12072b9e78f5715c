use Rattle.std.proofs.Common.{codes, refl}
use Rattle.std.proofs.lemmas.Str.Pattern.{contains_text}
use Rattle.causes.proofs.refusals.explained_tip.Goals as goal

pub returns-then-not-contains : goal.returns-then-not-contains
returns-then-not-contains c =
    let has = contains_text c.contains.result (codes "\n  tip: to pass '") c.args.text.now c.contains.ensures.cases in
    let not = c.if-not-contains.true in
    (λ is. absurd (cc), λ tip. absurd (let is = has.1 tip in cc))

pub returns : goal.returns
returns c =
    let has = contains_text c.contains.result (codes "\n  tip: to pass '") c.args.text.now c.contains.ensures.cases in
    let not = c.if-not-contains.false in
    (λ is. has.0 cc, λ tip. refl)

use Rattle.std.proofs.Common.{◌≡◌, ◌∙◌, ◌+◌, ◌∷◌, ◌++◌, [], suc, ℕ, List, take, map, refl, sym, ap, arith}
use Rattle.std.proofs.lemmas.List.{take_more_set, map-append}
use Rattle.lists.specs.Below.{below}
use Rattle.partition.specs.Fti.{Fti, source_count}
use Rattle.certificate.specs.Certificate.{coefficient, polynomial}
use Rattle.certificate.proofs.column_text.put_polynomial.Goals as goal

pub loop-i-init : goal.loop-i-init
unfolding below
loop-i-init c = refl

one_more : (v : ℕ → ℕ) (i : ℕ) → map v (below (i + 1)) ≡ map v (below i) ++ v i ∷ []
unfolding below
one_more v i = (let more : i + 1 ≡ suc i = omega arith in ap (λ (n : ℕ). map v (below n)) more ∙ map-append v (below i) (i ∷ []))

pub loop-i-preserved : goal.loop-i-preserved
loop-i-preserved c =
    let v = coefficient c.args.certificate.now c.args.b c.args.c in
    let i : ℕ = c.loop-i.i in
    take_more_set c.loop-i.out i c.coefficient.result (omega (arith, c.loop-i-test.true, c.k-count.ensures.byte, c.loop-i.auto.out, c.requires.room))
    ∙ ap (λ (l : List ℕ). l ++ c.coefficient.result ∷ []) c.loop-i.invariant
    ∙ ap (λ (x : ℕ). map v (below i) ++ x ∷ []) c.coefficient.ensures
    ∙ sym (one_more v i)

pub returns-clause-polynomial : goal.returns-clause-polynomial
unfolding polynomial
returns-clause-polynomial c =
    let v = coefficient c.args.certificate.now c.args.b c.args.c in
    let all : c.k-count.result ≡ c.loop-i.i = omega (arith, c.loop-i-test.false, c.loop-i.auto.i-end) in
    let count : c.loop-i.i ≡ source_count c.args.certificate.now.fti c.args.b =
    sym all ∙ c.k-count.ensures.value ∙ ap (λ (f : Fti). source_count f c.args.b) c.fti.ensures.value in
    ap (λ (n : ℕ). take n c.loop-i.out) all ∙ c.loop-i.invariant ∙ ap (λ (n : ℕ). map v (below n)) count

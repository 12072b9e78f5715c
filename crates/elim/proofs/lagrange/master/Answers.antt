use Rattle.std.proofs.Common.{◌≡◌, ◌<◌, ◌-◌, ◌++◌, [], ◌∷◌, ℕ, List, length, get_or, take, drop, sym, ap, ◌∙◌, subst, arith}
use Rattle.std.specs.List.{AllByRecursion}
use Rattle.std.proofs.lemmas.List.{take_all, drop_all}
use Rattle.lists.specs.Bytes.{IsByte}
use Rattle.gf256.specs.Arithmetic.{sum_of, product}
use Rattle.poly.proofs.Product.{times_over}
use Rattle.elim.specs.Lagrange.{IsMaster}
use Rattle.elim.proofs.CodePoints.{points_bytes, byte_read}
use Rattle.elim.proofs.Basis.{master_is}
use Rattle.elim.proofs.lagrange.master.Goals as goal

pub mul-requires-clause-left : goal.mul-requires-clause-left
mul-requires-clause-left c = byte_read c.args.points.now 0 c.index-points-0.result c.requires.points c.requires.some c.index-points-0.is

points_split : (points : List ℕ) (first : ℕ) → 0 < length points → first ≡ get_or points 0 first → points ≡ first ∷ take (length points - 1) (drop 1 points)
points_split [] first lt is = absurd (omega arith)
points_split (p ∷ ps) first lt is = ap (λ v. v ∷ ps) (sym is) ∙ ap (λ l. first ∷ l) (sym (take_all (length (p ∷ ps) - 1) ps (omega arith)))

pub returns : goal.returns
returns c =
    let points : List ℕ = c.args.points.now in
    let first : ℕ = c.index-points-0.result in
    let rest : List ℕ = take (length c.args.points.now - 1) (drop 1 c.args.points.now) in
    let cs : List ℕ = c.from_roots-others.result in
    let items : List ℕ = c.coefficients-coefficient-items.result.now in
    let same : c.coefficients-coefficient-items.result.now ≡ c.from_roots-others.result = c.coefficients-coefficient-items.ensures in
    let whole : c.args.points.now ≡ c.index-points-0.result ∷ take (length c.args.points.now - 1) (drop 1 c.args.points.now) = points_split points first c.requires.some c.index-points-0.is in
    let bytes : AllByRecursion IsByte (c.index-points-0.result ∷ take (length c.args.points.now - 1) (drop 1 c.args.points.now)) =
    subst (AllByRecursion IsByte) whole (points_bytes (length c.args.points.now) points c.requires.points) in
    let all_bytes : AllByRecursion IsByte c.from_roots-others.result =
    subst (AllByRecursion IsByte) (take_all c.loop-coefficient.coefficient-index items c.loop-coefficient-test.false ∙ same) c.loop-coefficient.invariant.bytes in
    let end : drop c.loop-coefficient.coefficient-index c.coefficients-coefficient-items.result.now ≡ [] = drop_all c.loop-coefficient.coefficient-index items c.loop-coefficient-test.false in
    let made : c.push-2.new.self.items ≡ times_over sum_of product c.index-points-0.result 0 c.from_roots-others.result =
    c.in_ok-push-2.ensures.items
    ∙ ap (λ (l : List ℕ). c.loop-coefficient.master.items ++ times_over sum_of product first c.loop-coefficient.before l) (sym end)
    ∙ c.loop-coefficient.invariant.so_far
    ∙ ap (times_over sum_of product first 0) same in
    subst (λ (v : List ℕ). IsMaster v c.push-2.new.self.items) (sym whole)
    (subst (λ (v : List ℕ). IsMaster (c.index-points-0.result ∷ take (length c.args.points.now - 1) (drop 1 c.args.points.now)) v) (sym made)
    (master_is first rest cs bytes.0 bytes.1 all_bytes c.from_roots-others.ensures.count c.from_roots-others.ensures.leading c.from_roots-others.ensures.value))

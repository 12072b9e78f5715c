use Rattle.std.proofs.Common.{◌≡◌, ◌<◌, ◌≤◌, ◌+◌, ◌-◌, ℕ, List, [], length, drop, sym, ap, ◌∙◌, arith}
use Rattle.std.proofs.lemmas.List.{drop_all, length-replicate}
use Rattle.std.proofs.Math.ListN.{length-set}
use Rattle.gf256.specs.Arithmetic.{sum_of, product, point}
use Rattle.poly.specs.Polynomial.{value, value_over}
use Rattle.poly.proofs.Roots.{quotient_over}
use Rattle.elim.proofs.CodePoints.{point_read, byte_read}
use Rattle.elim.proofs.Basis.{numerator_is, quotient_none, value_next, quotient_more}
use Rattle.elim.proofs.lagrange.numerator.Goals as goal

pub loop-m-init : goal.loop-m-init
unfolding value_over
loop-m-init c =
    let n : ℕ = length c.args.points.now in
    let x : ℕ = c.index-points-i.result in
    let len : length c.in_ok-quotient.quotient.items ≡ length c.args.points.now = ap length c.in_ok-quotient.ensures ∙ length-replicate _ _ in
    let past : drop (length c.args.points.now + 1) c.args.master.now ≡ [] = drop_all (n + 1) c.args.master.now (omega (arith, c.requires.master.count)) in
    let none : drop (length c.args.points.now) c.in_ok-quotient.quotient.items ≡ [] = drop_all n c.in_ok-quotient.quotient.items (omega arith) in
    record {
      fits = omega arith;
      count = len;
      value = sym (ap (λ l. value l x) past);
      quotient = none ∙ sym (quotient_none c.args.master.now n x c.requires.master.count);
    }

pub mul-requires-clause-left : goal.mul-requires-clause-left
mul-requires-clause-left c = byte_read c.args.points.now c.args.i c.index-points-i.result c.requires.points c.requires.within c.index-points-i.is

pub loop-m-preserved : goal.loop-m-preserved
loop-m-preserved c =
    let p : List ℕ = c.args.master.now in
    let m : ℕ = c.loop-m.m in
    let some : 0 < c.loop-m.m = c.loop-m-test.true in
    let lt : c.loop-m.m < length c.args.master.now = omega (arith, c.requires.master.count) in
    let le : c.loop-m.m ≤ length c.loop-m.quotient.items = omega (arith, c.loop-m.invariant.count) in
    let same : c.loop-m.m - 1 + 1 ≡ c.loop-m.m = omega arith in
    let next : c.add-value.result ≡ value (drop c.loop-m.m c.args.master.now) c.index-points-i.result =
    value_next c.args.master.now c.loop-m.m c.index-points-i.result c.index-master-m.result c.loop-m.value c.add-value.result some lt c.index-master-m.is c.loop-m.invariant.value
    (c.add-value.ensures.value ∙ ap (sum_of c.index-master-m.result) c.mul.ensures.value) in
    record {
      fits = c.add-value.ensures.fits;
      count = simp length-set c.loop-m.invariant.count;
      value = next ∙ ap (λ k. value (drop k c.args.master.now) c.index-points-i.result) (sym same);
      quotient = quotient_more c.args.master.now c.loop-m.quotient.items c.loop-m.m c.index-points-i.result c.add-value.result some lt le next c.loop-m.invariant.quotient;
    }

pub returns : goal.returns
returns c =
    let first : c.loop-m.m ≡ 0 = omega arith in
    let here : c.index-points-i.result ≡ point c.args.i = point_read c.args.points.now c.args.i c.index-points-i.result c.requires.points c.requires.within c.index-points-i.is in
    let is : c.loop-m.quotient.items ≡ quotient_over sum_of product 0 c.args.master.now (point c.args.i) = rw (first, here) at c.loop-m.invariant.quotient in
    rw is (numerator_is (length c.args.points.now) c.args.i c.args.points.now c.args.master.now c.requires.few c.requires.points c.requires.master c.requires.within)

use Rattle.std.specs.Prelude.{◌==◌, not}
use Rattle.std.proofs.Common.{Bool, true, false, ◌≡◌, ◌≤◌, ◌+◌, ◌++◌, [], ◌∷◌, ℕ, List, length, take, refl, sym, ap, ◌∙◌, arith, rules}
use Rattle.std.proofs.lemmas.List.{take_more}
use Rattle.lists.specs.Bytes.{IsByte}
use Rattle.gf256.specs.Arithmetic.{product}
use Rattle.poly.specs.Polynomial.{root_product_over}
use Rattle.elim.specs.Lagrange.{differences}
use Rattle.elim.proofs.CodePoints.{points_front, points_bytes, byte_read}
use Rattle.elim.proofs.Basis.{differences_same, differences_more}
use Rattle.elim.proofs.lagrange.differences.Goals as goal
use Rattle.elim.proofs.lagrange.differences.Goals.{then-ne, else-ne}

pub loop-point-init : goal.loop-point-init
unfolding root_product_over
loop-point-init c = record { fits = omega arith; so_far = refl }

pub add-requires-clause-right : goal.add-requires-clause-right
add-requires-clause-right c = byte_read c.args.points.now c.loop-point.point-index c.point-item.result c.requires c.loop-point-test.true c.point-item.is

negated : (b t : Bool) → b ≡ not t → t ≡ not b
negated b true e = rw e refl
negated b false e = rw e refl

pub loop-point-preserved : goal.loop-point-preserved
loop-point-preserved c =
    let i : ℕ = c.loop-point.point-index in
    let ep : IsByte c.point-item.result = byte_read c.args.points.now c.loop-point.point-index c.point-item.result c.requires c.loop-point-test.true c.point-item.is in
    let le : c.loop-point.point-index ≤ length c.args.points.now = omega arith in
    let front = points_bytes c.loop-point.point-index (take c.loop-point.point-index c.args.points.now) (points_front c.loop-point.point-index (length c.args.points.now) c.args.points.now le c.requires) in
    let more : take (c.loop-point.point-index + 1) c.args.points.now ≡ take c.loop-point.point-index c.args.points.now ++ c.point-item.result ∷ [] =
    take_more c.args.points.now c.loop-point.point-index c.point-item.result c.loop-point-test.true
    ∙ ap (λ v. take c.loop-point.point-index c.args.points.now ++ v ∷ []) (sym c.point-item.is) in
    elim c.if-ne.branch [
      | then-ne w ↦ record {
        fits = rw w.product-is w.mul-product.ensures.fits;
        so_far = w.product-is ∙ w.mul-product.ensures.value
            ∙ ap (λ (v : ℕ). product v w.add.result) c.loop-point.invariant.so_far
            ∙ ap (product (differences (take c.loop-point.point-index c.args.points.now) c.args.x)) w.add.ensures.value
            ∙ sym (differences_more (take c.loop-point.point-index c.args.points.now) c.point-item.result c.args.x front ep (search rules)
            (negated c.ne.result (c.args.x == c.point-item.result) c.ne.ensures ∙ ap not w.if-ne.true))
            ∙ ap (λ (l : List ℕ). differences l c.args.x) (sym more);
      }
      | else-ne w ↦ record {
        fits = rw w.product-is c.loop-point.invariant.fits;
        so_far = w.product-is ∙ c.loop-point.invariant.so_far
            ∙ sym (differences_same (take c.loop-point.point-index c.args.points.now) c.point-item.result c.args.x
            (negated c.ne.result (c.args.x == c.point-item.result) c.ne.ensures ∙ ap not w.if-ne.false))
            ∙ ap (λ (l : List ℕ). differences l c.args.x) (sym more);
      }
    ]

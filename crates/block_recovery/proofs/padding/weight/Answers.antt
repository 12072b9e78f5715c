use Rattle.std.proofs.Common.{◌≡◌, ◌≢◌, ◌<◌, ◌+◌, ◌∙◌, ℕ, Some, None, List, ◌∷◌, ◌++◌, [], take, get_or, unwrap_or, sym, ap, subst, refl}
use Rattle.std.specs.Prelude.{Option, IsNone, IfSome}
use Rattle.gf256.specs.ProductLaws.{inverse_of}
use Rattle.std.proofs.lemmas.Bool.{eq-eqb, ne_eqb}
use Rattle.std.proofs.lemmas.List.{take_more, take_all}
use Rattle.lists.specs.Bytes.{IsByte}
use Rattle.gf256.specs.Arithmetic.{point, product, sum_of}
use Rattle.poly.proofs.Lists.{all_by_recursion}
use Rattle.block_recovery.specs.Differences.{differences}
use Rattle.block_recovery.proofs.Differences.{differences_byte, differences_some, same_ESI_more, other_ESI_more, inverse_is}
use Rattle.block_recovery.proofs.padding.weight.Goals as goal
use Rattle.block_recovery.proofs.padding.weight.Goals.{then-other-esi, else-other-esi}

pub mul-product-requires-clause-left : goal.mul-product-requires-clause-left
mul-product-requires-clause-left c = subst IsByte (sym c.loop-other.invariant) (differences_byte (take c.loop-other.other-index c.args.esis.now) c.args.esi)

pub inv-requires : goal.inv-requires
inv-requires c = subst IsByte (sym c.loop-other.invariant) (differences_byte (take c.loop-other.other-index c.args.esis.now) c.args.esi)

pub loop-other-preserved : goal.loop-other-preserved
loop-other-preserved c =
    let front = take c.loop-other.other-index c.args.esis.now in
    let other = get_or c.args.esis.now c.loop-other.other-index 0 in
    let more : take (c.loop-other.other-index + 1) c.args.esis.now ≡ take c.loop-other.other-index c.args.esis.now ++ get_or c.args.esis.now c.loop-other.other-index 0 ∷ [] =
    take_more c.args.esis.now c.loop-other.other-index 0 c.loop-other-test.true in
    elim c.if-other-esi.branch [
      | then-other-esi w ↦
          (w.product-is ∙ w.mul-product.ensures.value
          ∙ ap (λ (x : ℕ). product x w.add.result) c.loop-other.invariant
          ∙ ap (product (differences front c.args.esi)) (w.add.ensures.value ∙ ap (λ (x : ℕ). sum_of x w.point.result) c.point-here.ensures.value ∙ ap (sum_of (point c.args.esi)) w.point.ensures.value)
          ∙ sym (other_ESI_more front other c.args.esi (ne_eqb other c.args.esi w.if-other-esi.true))
          ∙ ap (λ (l : List ℕ). differences l c.args.esi) (sym more))
      | else-other-esi w ↦
          (w.product-is ∙ c.loop-other.invariant
          ∙ sym (same_ESI_more front other c.args.esi (eq-eqb other c.args.esi w.if-other-esi.false))
          ∙ ap (λ (l : List ℕ). differences l c.args.esi) (sym more))
    ]

weight_from : (a : ℕ) (o : Option ℕ) → (IsNone o → a ≡ 0) → IfSome o (λ w. product a w ≡ 1) → IfSome o IsByte → a < 256 → a ≢ 0 → unwrap_or o 0 ≡ inverse_of a
weight_from a None zero one byte ha some = absurd (some (zero refl))
weight_from a (Some w) zero one byte ha some = inverse_is a w ha byte some one

pub returns : goal.returns
returns c =
    let esis = c.args.esis.now in
    let whole : take c.loop-other.other-index c.args.esis.now ≡ c.args.esis.now = take_all c.loop-other.other-index c.args.esis.now c.loop-other-test.false in
    let is : c.loop-other.product ≡ differences c.args.esis.now c.args.esi = c.loop-other.invariant ∙ ap (λ (l : List ℕ). differences l c.args.esi) whole in
    let some = differences_some c.args.esis.now c.args.esi (all_by_recursion (λ j. j < 255) c.args.esis.now c.requires.esis) c.requires.esi in
    c.unwrap_or.ensures
    ∙ weight_from c.loop-other.product c.inv.result c.inv.ensures.zero.0 c.inv.ensures.inverse c.inv.ensures.fits (subst IsByte (sym is) (differences_byte c.args.esis.now c.args.esi)) (λ z. some (sym is ∙ z))
    ∙ ap inverse_of is

use Rattle.std.proofs.Common.{◌≡◌, ◌∙◌, ◌++◌, ◌∷◌, [], ℕ, map, ap, sym, arith}
use Rattle.std.specs.Prelude.{filter}
use Rattle.gf256.specs.Arithmetic.{point}
use Rattle.lists.specs.Below.{below}
use Rattle.lists.specs.Selection.{is_among}
use Rattle.cert.proofs.Adding.{points_none, points_yes, points_no}
use Rattle.cert.proofs.twins.points_of.Goals as goal
use Rattle.cert.proofs.twins.points_of.Goals.{then-contains+in_ok-push, else-contains}

pub loop-esi-init : goal.loop-esi-init
loop-esi-init c = c.in_ok-points.ensures.items ∙ points_none (is_among c.args.arrived_esis.now)

pub loop-esi-preserved : goal.loop-esi-preserved
loop-esi-preserved c =
    let told : is_among c.args.arrived_esis.now c.loop-esi.esi-counter ≡ c.contains.result = sym c.contains.ensures.value in
    elim c.if-contains.branch [
      | then-contains+in_ok-push w ↦
          rw w.points-is (w.in_ok-push.ensures.items ∙ ap (λ (p : ℕ). c.loop-esi.points.items ++ p ∷ []) w.point.ensures.value
          ∙ points_yes (is_among c.args.arrived_esis.now) c.loop-esi.esi-counter c.loop-esi.points.items c.loop-esi.invariant (told ∙ w.if-contains.true))
      | else-contains w ↦
          rw w.points-is (points_no (is_among c.args.arrived_esis.now) c.loop-esi.esi-counter c.loop-esi.points.items c.loop-esi.invariant (told ∙ w.if-contains.false))
    ]

pub returns-clause-points : goal.returns-clause-points
returns-clause-points c =
    let n : c.loop-esi.esi-counter ≡ 255 = omega arith in
    c.loop-esi.invariant ∙ ap (λ (m : ℕ). map point (filter (is_among c.args.arrived_esis.now) (below m))) n

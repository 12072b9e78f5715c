use Rattle.std.specs.Prelude.{◌||◌, ◌==◌, is_some}
use Rattle.std.proofs.Common.{◌≡◌, ◌∙◌, ℕ, sym, ap, arith}
use Rattle.std.proofs.lemmas.Bool.{or_left, or_right, or_from, eq-eqb, ne_eqb}
use Rattle.block_recovery.specs.Blocks.{bytes_of_esi}
use Rattle.block_recovery.proofs.Those.{those_more, those_same, came_is}
use Rattle.block_recovery.proofs.padding.esis_with.Goals as goal
use Rattle.block_recovery.proofs.padding.esis_with.Goals.{then-is_some+in_ok-push, then-is_some-via-then-is_some, then-is_some-via-else-is_some+then-j-more, else-is_some+else-j-more}

pub loop-j-preserved : goal.loop-j-preserved
loop-j-preserved c =
    let test = λ (j : ℕ). is_some (bytes_of_esi c.args.arrivals.now j) || j == c.args.more in
    let came : is_some (bytes_of_esi c.args.arrivals.now c.loop-j.j) ≡ is_some c.symbol_at.result = ap is_some (sym c.symbol_at.ensures) ∙ came_is _ in
    elim c.if-is_some.branch [
      | then-is_some+in_ok-push w ↦ elim w.then-is_some.branch [
        | then-is_some-via-then-is_some v ↦
            (rw (w.esis-is, w.in_ok-push.ensures.items)
            (those_more test 0 c.loop-j.j c.loop-j.esis.items c.loop-j.invariant (omega arith) (or_left _ _ (came ∙ sym c.is_some.ensures ∙ v.if-is_some.true))))
        | then-is_some-via-else-is_some+then-j-more v ↦
            (rw (w.esis-is, w.in_ok-push.ensures.items)
            (those_more test 0 c.loop-j.j c.loop-j.esis.items c.loop-j.invariant (omega arith) (or_right _ _ (eq-eqb c.loop-j.j c.args.more v.if-j-more.true))))
      ]
      | else-is_some+else-j-more w ↦
          (rw w.esis-is
          (those_same test 0 c.loop-j.j c.loop-j.esis.items c.loop-j.invariant
          (or_from _ _ (came ∙ sym c.is_some.ensures ∙ w.if-is_some.false) (ne_eqb c.loop-j.j c.args.more w.if-j-more.false))))
    ]

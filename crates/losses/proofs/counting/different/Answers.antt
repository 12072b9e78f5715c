use Rattle.std.proofs.Common.{ℕ, Bool, cond, get_or, nat_lt, ap, arith}
use Rattle.std.proofs.lemmas.Bool.{lt-ltb, le-ltb}
use Rattle.losses.proofs.Filled.{at_most, count_step, count_none, count_all}
use Rattle.losses.proofs.counting.different.Goals as goal
use Rattle.losses.proofs.counting.different.Goals.{then-copies-esi-gt0, else-copies-esi-gt0}

pub loop-esi-init : goal.loop-esi-init
loop-esi-init c = count_none (λ j. nat_lt 0 (get_or c.args.copies.now j 0))

pub overflow_add-different : goal.overflow_add-different
overflow_add-different c =
    let a = at_most (λ j. nat_lt 0 (get_or c.args.copies.now j 0)) c.loop-esi.esi in
    omega (arith, a, c.loop-esi.invariant)

pub loop-esi-preserved : goal.loop-esi-preserved
loop-esi-preserved c =
    let s = count_step (λ j. nat_lt 0 (get_or c.args.copies.now j 0)) c.loop-esi.esi c.loop-esi.different c.loop-esi.invariant in
    elim c.if-copies-esi-gt0.branch [
      | then-copies-esi-gt0 w ↦
          (let b = ap (λ (v : Bool). cond {A = ℕ} v 1 0) (lt-ltb 0 (get_or c.args.copies.now c.loop-esi.esi 0) (omega arith)) in
          let i = w.different-is in
          omega (arith, s, b, i))
      | else-copies-esi-gt0 w ↦
          (let b = ap (λ (v : Bool). cond {A = ℕ} v 1 0) (le-ltb 0 (get_or c.args.copies.now c.loop-esi.esi 0) (omega arith)) in
          let i = w.different-is in
          omega (arith, s, b, i))
    ]

pub returns : goal.returns
returns c = count_all c.args.copies.now c.loop-esi.esi c.loop-esi.different (omega arith) c.loop-esi.invariant

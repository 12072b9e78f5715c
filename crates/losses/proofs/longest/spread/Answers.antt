use Rattle.std.proofs.Common.{◌≡◌, ℕ, suc, ◌+◌, ◌-◌, None, Some, arith, subst}
use Rattle.losses.proofs.Starts.{spread_more, spread_none}
use Rattle.losses.specs.Runs.{run_at}
use Rattle.losses.specs.Starts.{AreSpread}
use Rattle.losses.proofs.longest.spread.Goals as goal

pub overflow_add-run : goal.overflow_add-run
overflow_add-run c =
    let t = c.loop-place-test.true in
    let b = c.loop-place.invariant.spread.sound (c.loop-place.place - 1) c.in-Some.behind c.in-Some.is in
    let r = c.requires (c.loop-place.place - 1 + b.by) b.behind b.is in
    let s = b.size in
    omega (arith, t, r, s)

pub loop-place-preserved-in-Some : goal.loop-place-preserved-in-Some
loop-place-preserved-in-Some c =
    let t = c.loop-place-test.true in
    let i = c.loop-place.invariant.within in
    let a = c.loop-place.auto.runs in
    let e : c.loop-place.place - 1 ≡ suc (c.loop-place.place - 1 - 1) = omega (arith, t) in
    let are : AreSpread (suc (c.loop-place.place - 1 - 1)) c.args.runs.now c.loop-place.runs = subst (λ (p : ℕ). AreSpread p c.args.runs.now c.loop-place.runs) e c.loop-place.invariant.spread in
    let h : run_at c.loop-place.runs (suc (c.loop-place.place - 1 - 1)) ≡ Some c.in-Some.behind = subst (λ (p : ℕ). run_at c.loop-place.runs p ≡ Some c.in-Some.behind) e c.in-Some.is in
    let new = spread_more (c.loop-place.place - 1 - 1) c.args.runs.now c.loop-place.runs are (omega (arith, t, i, a)) c.in-Some.behind c.put.new.runs h c.put.ensures in
    let n = new.count in
    record { within = omega (arith, n, i, a); spread = new }

pub loop-place-preserved : goal.loop-place-preserved
loop-place-preserved c =
    let t = c.loop-place-test.true in
    let i = c.loop-place.invariant.within in
    let a = c.loop-place.auto.runs in
    let e : c.loop-place.place - 1 ≡ suc (c.loop-place.place - 1 - 1) = omega (arith, t) in
    let are : AreSpread (suc (c.loop-place.place - 1 - 1)) c.args.runs.now c.loop-place.runs = subst (λ (p : ℕ). AreSpread p c.args.runs.now c.loop-place.runs) e c.loop-place.invariant.spread in
    let h : run_at c.loop-place.runs (suc (c.loop-place.place - 1 - 1)) ≡ None = subst (λ (p : ℕ). run_at c.loop-place.runs p ≡ None) e c.in_default.is in
    record { within = omega (arith, i); spread = spread_none (c.loop-place.place - 1 - 1) c.args.runs.now c.loop-place.runs are (omega (arith, t, i, a)) h }

use Rattle.std.specs.Prelude.{is_some, filter}
use Rattle.std.proofs.Common.{◌≡◌, ◌∙◌, ◌+◌, ℕ, List, length, sym, ap, arith, add-one, refl}
use Rattle.lists.specs.Below.{below}
use Rattle.block_recovery.specs.Arrivals.{seen_at}
use Rattle.block_recovery.specs.Received.{came_at}
use Rattle.block_recovery.proofs.Counts.{one_more_held, none_more_held}
use Rattle.block_recovery.proofs.Kept.{count_none}
use Rattle.decoder.proofs.counting.have.Goals as goal
use Rattle.decoder.proofs.counting.have.Goals.{then-seen-j, else-seen-j}

pub returns-in_default : goal.returns-in_default
returns-in_default g c = λ held.
    sym (count_none (λ j. is_some (came_at held c.args.symbols.now c.args.b j)) c.args.n (λ j. ap is_some (c.in_default.ensures.none refl held j)))

pub loop-j-init : goal.loop-j-init
unfolding below
loop-j-init g c = record { few = omega arith; counts = λ held. refl }

pub loop-j-preserved : goal.loop-j-preserved
loop-j-preserved g c =
    let is : (held : g.row.S.Denot → List ℕ) → is_some (came_at held c.args.symbols.now c.args.b c.loop-j.j) ≡ seen_at c.seen_of-seen.result c.loop-j.j =
    λ held. sym (ap is_some (c.in-Some.ensures.some held c.loop-j.j)) ∙ sym (c.seen_of-seen.ensures held c.loop-j.j (omega arith)) in
    elim c.if-seen-j.branch [
      | then-seen-j w ↦ record {
        few = omega arith;
        counts = λ held. rw add-one (w.count-is ∙ ap (λ (x : ℕ). x + 1) (c.loop-j.invariant.counts held)
            ∙ sym (one_more_held (λ (j : ℕ). is_some (came_at held c.args.symbols.now c.args.b j)) c.loop-j.j (is held ∙ w.if-seen-j.true)));
      }
      | else-seen-j w ↦ record {
        few = omega arith;
        counts = λ held. rw add-one (w.count-is ∙ c.loop-j.invariant.counts held
            ∙ sym (none_more_held (λ (j : ℕ). is_some (came_at held c.args.symbols.now c.args.b j)) c.loop-j.j (is held ∙ w.if-seen-j.false)));
      }
    ]

pub returns : goal.returns
returns g c = λ held.
    let end : c.loop-j.j ≡ c.args.n = omega (arith, c.loop-j-test.false, c.loop-j.auto.j-end) in
    c.loop-j.invariant.counts held ∙ ap (λ (n : ℕ). length (filter (λ (j : ℕ). is_some (came_at held c.args.symbols.now c.args.b j)) (below n))) end

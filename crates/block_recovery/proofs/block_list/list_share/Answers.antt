use Rattle.std.specs.Prelude.{is_some}
use Rattle.std.proofs.Common.{◌≡◌, ◌∙◌, ◌+◌, ◌++◌, ◌∷◌, [], ℕ, List, ap, sym, subst}
use Rattle.std.specs.Global.{Vec}
use Rattle.block_recovery.specs.Listed.{Stands, HaveSome}
use Rattle.block_recovery.proofs.Listing.{AreListedBelow, below_put, below_empty, stands_more, some_more}
use Rattle.block_recovery.proofs.block_list.list_share.Goals as goal
use Rattle.block_recovery.proofs.block_list.list_share.Goals.{then-has_some+in_ok-push, else-has_some}

pub returns-in_err-push-clause-keeps : goal.returns-in_err-push-clause-keeps
returns-in_err-push-clause-keeps g c = λ b stands. rw c.in_err-push.ensures.items (c.loop-index.invariant.keeps b stands)

pub returns-in_err-push-clause-some : goal.returns-in_err-push-clause-some
returns-in_err-push-clause-some g c = λ held some. rw c.in_err-push.ensures.items (c.loop-index.invariant.some held some)

pub loop-index-preserved : goal.loop-index-preserved
loop-index-preserved g c =
    let s = c.args.symbols.now in
    let old = c.loop-index.blocks.items in
    elim c.if-has_some.branch [
      | then-has_some+in_ok-push w ↦
          (let is : c.if-has_some.blocks.items ≡ old ++ c.in-Some.block ∷ [] = ap (λ (v : Vec ℕ). v.items) w.blocks-is ∙ w.in_ok-push.ensures.items in
          record {
            here = λ held. subst (AreListedBelow held s c.args.share (c.loop-index.index + 1)) (sym is)
                (below_put held s c.args.share c.loop-index.index c.in-Some.block old c.in-Some.ensures.number (c.loop-index.invariant.here held));
            keeps = λ b stands. subst (λ (l : List ℕ). Stands l b) (sym is) (stands_more old c.in-Some.block b (c.loop-index.invariant.keeps b stands));
            some = λ held some.
                let there = c.has_some.ensures.some w.if-has_some.true held in
                subst (HaveSome held s) (sym is) (some_more held s old c.in-Some.block there.0 there.1 (c.loop-index.invariant.some held some));
          })
      | else-has_some w ↦
          (let is : c.if-has_some.blocks.items ≡ old = ap (λ (v : Vec ℕ). v.items) w.blocks-is in
          record {
            here = λ held. subst (AreListedBelow held s c.args.share (c.loop-index.index + 1)) (sym is)
                (below_empty held s c.args.share c.loop-index.index c.in-Some.block old c.in-Some.ensures.number (c.loop-index.invariant.here held)
                (λ j. ap is_some (c.has_some.ensures.none w.if-has_some.false held j)));
            keeps = λ b stands. subst (λ (l : List ℕ). Stands l b) (sym is) (c.loop-index.invariant.keeps b stands);
            some = λ held some. subst (HaveSome held s) (sym is) (c.loop-index.invariant.some held some);
          })
    ]

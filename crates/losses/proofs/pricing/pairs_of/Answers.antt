use Rattle.std.proofs.Common.{nat_lt, get_or, ◌∙◌, arith}
use Rattle.std.proofs.lemmas.Bool.{lt-ltb, le-ltb}
use Rattle.losses.proofs.Pairs.{pairs_no, pairs_none, pairs_yes}
use Rattle.losses.proofs.pricing.pairs_of.Goals as goal
use Rattle.losses.proofs.pricing.pairs_of.Goals.{then-copies-esi-gt0+in_ok-push, else-copies-esi-gt0}

pub loop-esi-init : goal.loop-esi-init
loop-esi-init c = c.new-pairs.ensures.items ∙ pairs_none (λ j. get_or c.args.copies.now j 0) (λ j. nat_lt 0 (get_or c.args.copies.now j 0))

pub loop-esi-preserved : goal.loop-esi-preserved
loop-esi-preserved c =
    elim c.if-copies-esi-gt0.branch [
      | then-copies-esi-gt0+in_ok-push w ↦
          rw w.pairs-is (w.in_ok-push.ensures.items ∙ pairs_yes (λ j. get_or c.args.copies.now j 0) (λ j. nat_lt 0 (get_or c.args.copies.now j 0)) c.loop-esi.esi c.loop-esi.pairs.items
          (lt-ltb 0 (get_or c.args.copies.now c.loop-esi.esi 0) (omega (arith, w))) c.loop-esi.invariant)
      | else-copies-esi-gt0 w ↦
          rw w.pairs-is (pairs_no (λ j. get_or c.args.copies.now j 0) (λ j. nat_lt 0 (get_or c.args.copies.now j 0)) c.loop-esi.esi c.loop-esi.pairs.items
          (le-ltb 0 (get_or c.args.copies.now c.loop-esi.esi 0) (omega (arith, w))) c.loop-esi.invariant)
    ]

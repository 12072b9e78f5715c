use Rattle.std.proofs.Common.{◌≡◌, ◌∙◌, sym, arith}
use Rattle.session.specs.Bounds.{begin}
use Rattle.session.proofs.Places.{begin_first, begin_later, piece_within}
use Rattle.session.proofs.session.bounds_of.Goals as goal
use Rattle.session.proofs.session.bounds_of.Goals.{then-i-eq0, else-i-eq0}

pub returns-clause-begin : goal.returns-clause-begin
returns-clause-begin c =
    elim c.if-i-eq0.branch [
      | then-i-eq0 w ↦ (w.from-is ∙ sym (begin_first 0 c.args.ends.now c.args.i w.if-i-eq0.true))
      | else-i-eq0 w ↦ (w.from-is ∙ sym (begin_later 0 c.args.ends.now c.args.i _ (omega (arith, w.if-i-eq0.false)) c.requires.place))
    ]

pub returns-clause-order : goal.returns-clause-order
returns-clause-order c =
    let from : c.if-i-eq0.from ≡ begin 0 c.args.ends.now c.args.i = elim c.if-i-eq0.branch [
      | then-i-eq0 w ↦ (w.from-is ∙ sym (begin_first 0 c.args.ends.now c.args.i w.if-i-eq0.true))
      | else-i-eq0 w ↦ (w.from-is ∙ sym (begin_later 0 c.args.ends.now c.args.i _ (omega (arith, w.if-i-eq0.false)) c.requires.place))
    ] in
    let within = piece_within c.args.i 0 c.args.ends.now c.args.size c.requires.ends c.requires.place in
    omega (arith, from, within.0)

pub returns-clause-within : goal.returns-clause-within
returns-clause-within c = (piece_within c.args.i 0 c.args.ends.now c.args.size c.requires.ends c.requires.place).1

use Rattle.std.proofs.Common.{◌∙◌, sym, ap, arith}
use Rattle.receiver.specs.Stored.{is_among}
use Rattle.receiver.proofs.Among.{among_at, none_among}
use Rattle.receiver.proofs.pending_block.place_of.Goals as goal

pub returns-then-esis-i-clause-among : goal.returns-then-esis-i-clause-among
returns-then-esis-i-clause-among c = sym (among_at c.args.esis.now c.loop-i.i c.loop-i-test.true) ∙ ap (is_among c.args.esis.now) c.if-esis-i.true

pub returns-clause-among : goal.returns-clause-among
returns-clause-among c = sym (none_among c.args.esis.now c.args.esi (λ m lm. c.loop-i.invariant m (omega (arith, lm, c.loop-i-test.false))))

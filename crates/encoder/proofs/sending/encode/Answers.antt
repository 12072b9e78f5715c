use Rattle.std.proofs.Common.{◌∙◌, sym, arith}
use Rattle.encoder.specs.Sending.{CanBeSent}
use Rattle.encoder.proofs.sending.encode.Goals.{then-rounds-gt1, else-rounds-gt1}
use Rattle.encoder.proofs.sending.encode.Goals as goal

pub returns-in_default-clause-fault : goal.returns-in_default-clause-fault
returns-in_default-clause-fault g c =
    let can : CanBeSent c.args.object.now c.args.fti.now = record { whole = omega arith; short = omega arith } in
    elim c.if-rounds-gt1.branch [
      | then-rounds-gt1 w ↦
          let order = c.rounds_at_once-rounds.ensures.rounds w.if-rounds-gt1.true in
          let failed = sym w.sent-is ∙ c.in_default.is in
          rw (w.writer-is, order) (can, rw failed at w.send_rounds-sent.ensures.some, rw failed at w.send_rounds-sent.ensures.fails)
      | else-rounds-gt1 w ↦
          let failed = sym w.sent-is ∙ c.in_default.is in
          rw w.writer-is (can, rw failed at w.send_all-sent.ensures.some, rw failed at w.send_all-sent.ensures.fails)
    ]

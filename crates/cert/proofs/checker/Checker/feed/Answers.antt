use Rattle.std.proofs.Common.{◌≡◌, ◌++◌, ◌∷◌, [], Some, Ok, arith, rules}
use Rattle.std.specs.Result.{result_transpose}
use Rattle.session.specs.Frames.{IsDatagram}
use Rattle.cert.proofs.Feeding.{one_more, still_no, has_reason, goes_on, fed_with_reason, stands_after, reason_after}
use Rattle.cert.proofs.checker.Checker.feed.Goals as goal

pub returns-in-Some-clause-fed : goal.returns-in-Some-clause-fed
returns-in-Some-clause-fed c = λ who object z ds fed.
    let d = c.args.datagram.now in
    let here : IsDatagram d = record { short = omega (arith, c.if-datagram-gt-MOST_BYTES.false); bytes = c.are_bytes.ensures } in
    let r = c.in_ok-end.field-0 in
    let ended : c.args.self.now.ended ≡ Some (Ok c.in_ok-end.field-0) = search rules in
    fed_with_reason c.args.self.now who object z (ds ++ d ∷ []) r ended (one_more who object z ds d here fed.each)
    (still_no who object z ds d here r (has_reason c.args.self.now who object z ds r ended fed))

pub returns-clause-fed : goal.returns-clause-fed
returns-clause-fed c = λ who object z ds fed.
    let d = c.args.datagram.now in
    let here : IsDatagram d = record { short = omega (arith, c.if-datagram-gt-MOST_BYTES.false); bytes = c.are_bytes.ensures } in
    let over = goes_on c.args.self.now who object z ds c.in_default.is fed in
    let e = c.in_ok-answer.ensures in
    let ended : c.transpose-self.result ≡ result_transpose (Ok c.in_ok-answer.field-0) = search rules in
    record {
      each = one_more who object z ds d here fed.each;
      stands =
          rw ended
          (stands_after who object z ds d here fed.each c.args.self.now _ over e.identity e.certificate e.object c.in_ok-answer.field-0 (e.passed ds over.walked)
          (e.against ds over.walked));
    }

pub returns-clause-reason : goal.returns-clause-reason
returns-clause-reason c = λ who object z ds fed.
    let d = c.args.datagram.now in
    let here : IsDatagram d = record { short = omega (arith, c.if-datagram-gt-MOST_BYTES.false); bytes = c.are_bytes.ensures } in
    let over = goes_on c.args.self.now who object z ds c.in_default.is fed in
    let e = c.in_ok-answer.ensures in
    reason_after who object z ds d here fed.each c.args.self.now c.step-answer.new.self over e.identity e.certificate e.object c.in_ok-answer.field-0 (e.passed ds over.walked) (e.against ds over.walked)

use Rattle.std.proofs.Common.{refl}
use Rattle.reception.specs.Answer.{Missing}
use Rattle.receiver.proofs.Taken.{store_taken, missing_answers, none_short}
use Rattle.receiver.proofs.receiving.Receiving.lack.Goals as goal

pub returns-in_err-short-clause-none : goal.returns-in_err-short-clause-none
returns-in_err-short-clause-none c = λ told ds stands _.
    none_short c.args.self.now told ds stands c.in-Some.store c.in-Some.is c.is_valid.ensures (c.in_err-short.ensures.none refl)

pub returns-clause-answer : goal.returns-clause-answer
returns-clause-answer c = λ told ds stands.
    let s = c.in_ok-short.short in
    store_taken c.args.self.now told ds stands c.in-Some.store c.in-Some.is (Missing s.block s.have s.need)
    (λ bytes at holds. missing_answers c.in-Some.store c.is_valid.ensures bytes at holds s (c.in_ok-short.ensures.short bytes at holds))

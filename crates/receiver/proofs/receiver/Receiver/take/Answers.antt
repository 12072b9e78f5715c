use Rattle.std.proofs.Common.{ℕ, List, sym, subst, refl}
use Rattle.reception.specs.Answer.{Missing, Object, IsAnswer}
use Rattle.block_bytes.specs.Held.{held_in, held_of}
use Rattle.decoder.proofs.Beginnings.{on_err}
use Rattle.receiver.proofs.Taken.{store_taken, missing_answers, object_taken, none_short}
use Rattle.receiver.proofs.receiver.Receiver.take.Goals as goal

pub returns-in-Some-first_short-clause-answer : goal.returns-in-Some-first_short-clause-answer
returns-in-Some-first_short-clause-answer c = λ ds stands.
    let s = c.in-Some-first_short.short in
    store_taken c.args.self.now.receiving (held_in c.args.self.now.blocks) ds stands c.in-Some.store c.in-Some.is (Missing s.block s.have s.need)
    (λ bytes at holds. missing_answers c.in-Some.store c.is_valid.ensures bytes at holds s (c.in-Some-first_short.ensures.short bytes at holds))

pub returns-in_ok-object-in-None-clause-answer : goal.returns-in_ok-object-in-None-clause-answer
returns-in_ok-object-in-None-clause-answer c = λ ds stands.
    let r = c.args.self.now in
    subst (λ (l : List ℕ). IsAnswer c.args.self.now.receiving.identity ds (Object l)) (sym c.in_ok-object-in-None.ensures)
    (object_taken r.receiving (held_in r.blocks) ds stands c.in-Some.store c.in-Some.is c.is_valid.ensures (c.first_short.ensures.none (rw c.in-None.is refl)) (held_of r.blocks) refl)

pub returns-in_err-object-in-None-clause-memory : goal.returns-in_err-object-in-None-clause-memory
returns-in_err-object-in-None-clause-memory c = λ ds stands.
    let r = c.args.self.now in
    on_err _ _ (none_short r.receiving (held_in r.blocks) ds stands c.in-Some.store c.in-Some.is c.is_valid.ensures (c.first_short.ensures.none (rw c.in-None.is refl)))

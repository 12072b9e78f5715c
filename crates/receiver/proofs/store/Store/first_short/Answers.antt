use Rattle.std.proofs.Common.{arith}
use Rattle.decoder.specs.Answered.{IsShort}
use Rattle.receiver.specs.Taking.{IsShortBlock}
use Rattle.receiver.proofs.Taken.{if_some, is_short}
use Rattle.receiver.proofs.store.Store.first_short.Goals as goal

pub returns-then-is_some-clause-short : goal.returns-then-is_some-clause-short
returns-then-is_some-clause-short c = λ bytes at holds.
    let store = c.args.self.now in
    if_some (IsShortBlock c.args.self.now.fti c.loop-b.b (at c.loop-b.b)) (IsShort c.args.self.now.fti at) _
    (λ s short. is_short store c.block_count-b-end.ensures.valid bytes at holds c.loop-b.b (omega (arith, c.block_count-b-end.ensures.value)) c.loop-b.invariant s short)
    (c.short-short.ensures.short bytes at holds)

use Rattle.std.proofs.Common.{◌∙◌, sym}
use Rattle.receiver.proofs.Fed.{all_solved, some_unsolved, no_fault, no_fault_none}
use Rattle.receiver.proofs.Taken.{short_none}
use Rattle.receiver.proofs.receiving.Receiving.progress.Goals as goal

pub returns-then-store-block_count-clause-tells : goal.returns-then-store-block_count-clause-tells
returns-then-store-block_count-clause-tells c = λ told ds stands.
    all_solved c.args.self.now told ds stands c.in-Some.store c.in-Some.is c.block_count.ensures.valid (c.if-store-block_count.true ∙ c.block_count.ensures.value)

pub returns-else-store-block_count-clause-tells : goal.returns-else-store-block_count-clause-tells
returns-else-store-block_count-clause-tells c = λ told ds stands none.
    some_unsolved c.args.self.now told ds stands c.in-Some.store c.in-Some.is c.block_count.ensures.valid
    (λ e. c.if-store-block_count.false (e ∙ sym c.block_count.ensures.value)) none

pub returns-then-store-block_count-clause-sound : goal.returns-then-store-block_count-clause-sound
returns-then-store-block_count-clause-sound c = λ told ds stands.
    no_fault c.args.self.now told ds stands c.in-Some.store c.in-Some.is c.block_count.ensures.valid

pub returns-else-store-block_count-clause-sound : goal.returns-else-store-block_count-clause-sound
returns-else-store-block_count-clause-sound c = λ told ds stands.
    no_fault c.args.self.now told ds stands c.in-Some.store c.in-Some.is c.block_count.ensures.valid

pub returns-in_default-clause-sound : goal.returns-in_default-clause-sound
returns-in_default-clause-sound c = λ told ds stands.
    no_fault_none c.args.self.now told ds stands c.in_default.is

pub returns-in_default-clause-tells : goal.returns-in_default-clause-tells
returns-in_default-clause-tells c = λ told ds stands.
    short_none c.args.self.now told ds stands c.in_default.is

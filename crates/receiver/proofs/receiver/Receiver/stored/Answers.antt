use Rattle.std.proofs.Common.{refl}
use Rattle.block_bytes.specs.Held.{held_in}
use Rattle.receiver.proofs.Amount.{none_stored, stored_is}
use Rattle.receiver.proofs.receiver.Receiver.stored.Goals as goal

pub returns-in_default : goal.returns-in_default
returns-in_default c = λ ds rs stands read.
    let r = c.args.self.now in
    none_stored r.receiving (held_in r.blocks) ds rs stands read c.args.block 0 c.in_default.is refl

pub returns : goal.returns
returns c = λ ds rs stands read.
    let r = c.args.self.now in
    stored_is r.receiving (held_in r.blocks) ds rs stands read c.args.block _ c.in-Some.store c.in-Some.is c.is_valid.ensures c.stored.ensures

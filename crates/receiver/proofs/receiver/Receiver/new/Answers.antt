use Rattle.std.proofs.Common.{refl}
use Rattle.block_bytes.specs.Held.{held_in}
use Rattle.receiver.proofs.receiver.Receiver.new.Goals as goal

pub returns-clause-stands : goal.returns-clause-stands
returns-clause-stands c = c.new.ensures.stands (held_in c.new-2.result) (λ f. refl)

use Rattle.std.proofs.Common.{refl}
use Rattle.receiver.proofs.file_receiver.FileReceiver.new.Goals as goal

pub returns-clause-stands : goal.returns-clause-stands
returns-clause-stands g c = c.new.ensures.stands _ (λ f. refl)

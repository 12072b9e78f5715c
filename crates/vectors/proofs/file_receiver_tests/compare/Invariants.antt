use Rattle.receiver.specs.Stands.{IsFed, IsSoundIn}
use Rattle.vectors.proofs.file_receiver_tests.compare.Given as goal

-- what is kept is sound, and the other receiver stands for some list
abbrev pub invariant-loop-datagram : goal.invariant-loop-datagram
invariant-loop-datagram l = record { sound : IsSoundIn l.filed.receiving.store; fed : IsFed l.held }

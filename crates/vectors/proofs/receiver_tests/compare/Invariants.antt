use Rattle.receiver.specs.Stands.{IsFed}
use Rattle.vectors.proofs.receiver_tests.compare.Given as goal

-- the receiver stands for some list
abbrev pub invariant-loop-datagram : goal.invariant-loop-datagram
invariant-loop-datagram l = IsFed l.receiver

use Rattle.std.proofs.Common.{map, take}
use Rattle.cert.specs.Fed.{IsFed}
use Rattle.alcrs_c.proofs.twin.fed.Given as goal

abbrev pub invariant-loop-datagram : goal.invariant-loop-datagram
invariant-loop-datagram l = IsFed l.checker l.fn.identity l.object l.fn.certificate (map (λ d. d.now) (take l.datagram-index l.datagrams))

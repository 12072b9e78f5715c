use Rattle.std.proofs.Common.{map}
use Rattle.reception.proofs.Heard.{Heard}
use Rattle.reception.proofs.scope.Scope.found_in.Given as goal

abbrev pub invariant-loop-datagram : goal.invariant-loop-datagram
invariant-loop-datagram l = Heard l.fn.identity (map (λ d. d.now) l.datagrams) l.datagram-index l.scope

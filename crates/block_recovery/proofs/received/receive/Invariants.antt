use Rattle.std.proofs.Common.{map}
use Rattle.reception.specs.Walks.{scope_in}
use Rattle.block_recovery.specs.Received.{bytes_at}
use Rattle.block_recovery.proofs.Receiving.{Scanned}
use Rattle.block_recovery.proofs.received.receive.Given as goal

abbrev pub invariant-loop-place : goal.invariant-loop-place
invariant-loop-place l =
    let ds = map (λ d. d.now) l.datagrams in
    Scanned (scope_in l.fn.identity ds) ds l.scope (bytes_at l.symbols) l.place

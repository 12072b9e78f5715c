use Rattle.file_check.proofs.Carriers.{carrier_found}
use Rattle.file_check.proofs.members.was_carrier.Goals as goal

pub returns-in-Ok : goal.returns-in-Ok
returns-in-Ok c = λ x f ds of l. (
    let tally = c.args.index.now.tally in
    rw c.in-Ok.is at
    (carrier_found tally.scope.identity ds tally.carriers.items of.tallied.placed c.args.place l c.binary_search.result (rw c.deref.ensures.value at c.binary_search.ensures.position)))

pub returns-in-Err : goal.returns-in-Err
returns-in-Err c = λ x f ds of l. (
    let tally = c.args.index.now.tally in
    rw c.in-Err.is at
    (carrier_found tally.scope.identity ds tally.carriers.items of.tallied.placed c.args.place l c.binary_search.result (rw c.deref.ensures.value at c.binary_search.ensures.position)))

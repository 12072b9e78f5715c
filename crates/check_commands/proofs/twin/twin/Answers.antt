use Rattle.std.proofs.Common.{[]}
use Rattle.request.specs.declared.requests.Request.TheVariants.{Twin}
use Rattle.commands.proofs.Stopping.{passed_on, stopped, by_unread}
use Rattle.check_commands.proofs.twin.twin.Goals as goal

pub returns-in_err-opened-clause-fault : goal.returns-in_err-opened-clause-fault
returns-in_err-opened-clause-fault g c =
    let w = g.H.Host.world c.args.host.now in
    let r = c.args.request.now in
    let fault = c.in_err-opened.field-0.0 in
    passed_on c.from_residual.result fault _ c.from_residual.ensures.1 (stopped w (Twin r) fault (by_unread w w (Twin r) [] fault c.in_err-opened.ensures.fault))

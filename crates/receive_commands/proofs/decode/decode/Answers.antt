use Rattle.std.proofs.Common.{[], inl}
use Rattle.request.specs.declared.requests.Request.TheVariants.{Decode}
use Rattle.commands.proofs.Stopping.{by_unread, passed_on, stopped}
use Rattle.receive_commands.proofs.decode.decode.Goals as goal

pub returns-in_err-session-clause-fault : goal.returns-in_err-session-clause-fault
returns-in_err-session-clause-fault g c =
    let w = g.H.Host.world c.args.host.now in
    let r = c.args.request.now in
    let fault = c.in_err-session.field-0.0 in
    passed_on c.from_residual.result fault _ c.from_residual.ensures.1
    (stopped w (Decode r) fault (by_unread w w (Decode r) [] fault (inl c.in_err-session.ensures.fault)))

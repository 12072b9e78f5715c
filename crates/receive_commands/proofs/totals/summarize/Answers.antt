use Rattle.std.proofs.Common.{refl}
use Rattle.commands.specs.Doing.{HasStopped}
use Rattle.request.specs.declared.requests.Request.TheVariants.{Show}
use Rattle.commands.proofs.Stopping.{passed_on}
use Rattle.commands.proofs.Passing.{session_unopened}
use Rattle.receive_commands.proofs.Showed.{none_had}
use Rattle.receive_commands.proofs.Totalled.{made, uncounted}
use Rattle.receive_commands.proofs.totals.summarize.Goals as goal

pub returns-in_err-frames-clause-fault : goal.returns-in_err-frames-clause-fault
returns-in_err-frames-clause-fault g c =
    let w = g.H.Host.world c.args.host.now in
    let r = c.args.request.now in
    let fault = c.in_err-frames.field-0.0 in
    passed_on c.from_residual.result fault (HasStopped w w (Show r)) c.from_residual.ensures.1
    (none_had w r fault (session_unopened w r.session.now fault c.in_err-frames.ensures.fault))

pub returns-in_err-summary-clause-fault : goal.returns-in_err-summary-clause-fault
returns-in_err-summary-clause-fault g c =
    let input = c.in_ok-frames.ensures.input in
    let w = g.H.Host.world c.args.host.now in
    let fault = c.in_err-summary.field-0.0 in
    passed_on c.from_residual-in_err-summary.result fault (HasStopped w w (Show c.args.request.now)) c.from_residual-in_err-summary.ensures.1
    (uncounted w c.args.request.now c.requires (g.H.Input.Read.remaining c.in_ok-frames.frames) input.bytes fault c.in_err-summary.ensures.fault (λ is. input.fails (c.in_err-summary.ensures.unsound is)))

pub returns-clause-ok : goal.returns-clause-ok
returns-clause-ok g c =
    let input = c.in_ok-frames.ensures.input in
    made (g.H.Host.world c.args.host.now) c.args.request.now c.requires (g.H.Input.Read.remaining c.in_ok-frames.frames) input.bytes c.in_ok-summary.summary c.in_ok-text.text _
    c.in_ok-summary.ensures.ok c.in_ok-text.ensures c.status_of-status.ensures.value refl

use Rattle.commands.proofs.Stopping.{passed_on}
use Rattle.check_commands.proofs.TwinnedFiles.{certificate_unread, frames_held, frames_unread, object_unread}
use Rattle.std.proofs.Common.{inl}
use Rattle.check_commands.proofs.twin.open_inputs.Goals as goal

pub returns-in_err-session-clause-fault : goal.returns-in_err-session-clause-fault
returns-in_err-session-clause-fault g c =
    passed_on c.from_residual.result c.in_err-session.field-0.0 _ c.from_residual.ensures.1 (inl c.in_err-session.ensures.fault)

pub returns-in_err-pass_frames-clause-fault : goal.returns-in_err-pass_frames-clause-fault
returns-in_err-pass_frames-clause-fault g c =
    let w = g.H.Host.world c.args.host.now in
    let fault = c.in_err-pass_frames.field-0.0 in
    passed_on c.from_residual-in_err-pass_frames.result fault _ c.from_residual-in_err-pass_frames.ensures.1
    (frames_unread w c.args.request.now _ _ c.in_ok-session.ensures.content fault c.in_err-pass_frames.ensures.fault)

pub returns-in_err-object-clause-fault : goal.returns-in_err-object-clause-fault
returns-in_err-object-clause-fault g c =
    let w = g.H.Host.world c.args.host.now in
    let r = c.args.request.now in
    let fault = c.in_err-object.field-0.0 in
    passed_on c.from_residual-in_err-object.result fault _ c.from_residual-in_err-object.ensures.1
    (object_unread w r fault (frames_held w r _ c.in_ok-session.ensures.content.bytes c.in_ok-pass_frames.ensures.framed) c.in_err-object.ensures.fault)

pub returns-in_err-certificate-clause-fault : goal.returns-in_err-certificate-clause-fault
returns-in_err-certificate-clause-fault g c =
    let w = g.H.Host.world c.args.host.now in
    let r = c.args.request.now in
    let fault = c.in_err-certificate.field-0.0 in
    passed_on c.from_residual-in_err-certificate.result fault _ c.from_residual-in_err-certificate.ensures.1
    (certificate_unread w r fault (frames_held w r _ c.in_ok-session.ensures.content.bytes c.in_ok-pass_frames.ensures.framed) _ c.in_ok-object.ensures.content.bytes c.in_err-certificate.ensures.fault)

pub returns-clause-framed : goal.returns-clause-framed
returns-clause-framed g c =
    frames_held (g.H.Host.world c.args.host.now) c.args.request.now _ c.in_ok-session.ensures.content.bytes c.in_ok-pass_frames.ensures.framed

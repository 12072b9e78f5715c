use Rattle.std.proofs.lemmas.Result.{IfOk-weaker}
use Rattle.std.proofs.Common.{rules, inl}
use Rattle.std.specs.Prelude.{IfSome}
use Rattle.session.specs.Frames.{StopsAt}
use Rattle.session.specs.declared.frame.FrameFault.{FrameFault}
use Rattle.request.specs.declared.requests.Request.TheVariants.{Show}
use Rattle.host.specs.World.{MayFail, Reading}
use Rattle.commands.specs.Doing.{IsUndone}
use Rattle.commands.specs.declared.fault.Stop.TheVariants.{ByFault}
use Rattle.commands.proofs.Passing.{session_changed, session_unopened, unframed}
use Rattle.commands.proofs.Stopping.{passed_on, undone}
use Rattle.receive_commands.proofs.Showed.{gone_over, is_unshown, none_had, show_done}
use Rattle.receive_commands.proofs.show.show_each.Goals.{then-not-is_live+in_ok-pass_frames+in_ok-see_unchanged, else-not-is_live}
use Rattle.receive_commands.proofs.show.show_each.Goals as goal

pub returns-clause-ok : goal.returns-clause-ok
returns-clause-ok g c =
    let input = c.in_ok-frames.ensures.input in
    IfOk-weaker c.print_datagrams.result _ _
    (λ ended. show_done (g.H.Host.world c.args.host.now) c.args.request.now c.requires (g.H.Input.Read.remaining c.in_ok-frames.frames) input.bytes (g.H.Host.world c.print_datagrams.new.host)
    c.print_datagrams.ensures.files ended.status)
    c.print_datagrams.ensures.shown

pub returns-in_err-frames-clause-fault : goal.returns-in_err-frames-clause-fault
returns-in_err-frames-clause-fault g c =
    let w = g.H.Host.world c.args.host.now in
    let r = c.args.request.now in
    let fault = c.in_err-frames.field-0.0 in
    passed_on c.from_residual.result (ByFault fault) (IsUndone w w (Show r)) c.from_residual.ensures.1
    (undone w w (Show r) fault (none_had w r fault (session_unopened w r.session.now fault c.in_err-frames.ensures.fault)))

pub returns-in_err-pass_frames-clause-fault : goal.returns-in_err-pass_frames-clause-fault
returns-in_err-pass_frames-clause-fault g c =
    let w = g.H.Host.world c.args.host.now in
    let r = c.args.request.now in
    let fault = c.in_err-pass_frames.field-0.0 in
    passed_on c.from_residual-in_err-pass_frames.result (ByFault fault) (IsUndone w w (Show r)) c.from_residual-in_err-pass_frames.ensures.1
    (undone w w (Show r) fault (none_had w r fault (unframed w r.session.now _ _ c.in_ok-frames.ensures.content fault c.in_err-pass_frames.ensures.fault)))

pub returns-in_err-see_unchanged-clause-fault : goal.returns-in_err-see_unchanged-clause-fault
returns-in_err-see_unchanged-clause-fault g c =
    let w = g.H.Host.world c.args.host.now in
    let r = c.args.request.now in
    let fault = c.in_err-see_unchanged.field-0.0 in
    passed_on c.from_residual-in_err-see_unchanged.result (ByFault fault) (IsUndone w w (Show r)) c.from_residual-in_err-see_unchanged.ensures.1
    (undone w w (Show r) fault (none_had w r fault (session_changed w r.session.now _ c.in_ok-frames.ensures.content.fails fault c.in_err-see_unchanged.ensures)))

pub returns-clause-fault : goal.returns-clause-fault
returns-clause-fault g c =
    let input = c.in_ok-frames.ensures.input in
    let old = g.H.Host.world c.args.host.now in
    let name = c.args.request.now.session.now in
    let opened = g.H.Input.Read.remaining c.in_ok-frames.frames in
    let whole : (e : FrameFault) → IfSome opened (StopsAt e) → MayFail old (Reading name) = elim c.if-not-is_live.branch [
      | then-not-is_live+in_ok-pass_frames+in_ok-see_unchanged w ↦ gone_over old name _ opened c.in_ok-frames.ensures.content.bytes input.bytes w.in_ok-pass_frames.ensures.framed
      | else-not-is_live w ↦ (λ e stops. inl (c.length_of.ensures.none (let live = w.if-not-is_live.false in let none = c.is_none-is_live.ensures in search rules)))
    ] in
    is_unshown old c.args.request.now c.requires opened input.bytes (g.H.Host.world c.print_datagrams.new.host)
    c.print_datagrams.ensures.files whole c.print_datagrams.result (g.H.Input.Read.sound c.in_ok-frames.frames) c.print_datagrams.ensures.fault c.print_datagrams.ensures.unsound input.fails

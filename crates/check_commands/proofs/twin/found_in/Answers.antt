use Rattle.std.proofs.Common.{[], sym, subst}
use Rattle.request.specs.declared.requests.Request.TheVariants.{Twin}
use Rattle.commands.specs.Doing.{HasStopped}
use Rattle.commands.specs.declared.fault.Fault.{Fault}
use Rattle.commands.proofs.Stopping.{by_unread, passed_on, stopped}
use Rattle.check_commands.proofs.TwinnedFiles.{changed_since, found_of, unfound}
use Rattle.check_commands.proofs.twin.found_in.Goals as goal

pub returns-in_ok-short_block-in-Ok-clause-found : goal.returns-in_ok-short_block-in-Ok-clause-found
returns-in_ok-short_block-in-Ok-clause-found g c =
    let found = c.in_ok-short_block-in-Ok.field-0 in
    let told = c.in_ok-short_block-in-Ok.ensures in
    found_of (g.H.Host.world c.args.host.now) c.args.request.now _ _ _ _ _ _ c.requires.session c.requires.object c.requires.certificate c.requires.framed found.0 found.1
    (λ x o text sx so st. told.verdict c.args.request.now.identity x o text (c.in-Ok.ensures.checked x o text sx so st)) told.short

pub returns-in-Err-clause-fault : goal.returns-in-Err-clause-fault
returns-in-Err-clause-fault g c =
    let w = g.H.Host.world c.args.host.now in
    subst (λ (fault : Fault). HasStopped w w (Twin c.args.request.now) fault) (sym c.check_fault.ensures)
    (unfound (g.H.Host.world c.args.host.now) c.args.request.now _ _ _ _ _ _ c.requires.session c.requires.object c.requires.certificate c.requires.framed c.in-Err.fault
    c.in-Err.ensures.untold c.in-Err.ensures.fault)

pub returns-in_err-see_files-in-Ok-clause-fault : goal.returns-in_err-see_files-in-Ok-clause-fault
returns-in_err-see_files-in-Ok-clause-fault g c =
    let w = g.H.Host.world c.args.host.now in
    let r = c.args.request.now in
    let fault = c.in_err-see_files-in-Ok.field-0.0 in
    passed_on c.from_residual.result fault _ c.from_residual.ensures.1
    (stopped w (Twin r) fault (by_unread w w (Twin r) [] fault
    (changed_since w r _ _ _ _ _ _ c.requires.session c.requires.object c.requires.certificate c.requires.framed fault c.in_err-see_files-in-Ok.ensures)))

use Rattle.std.proofs.Common.{sym, subst}
use Rattle.request.specs.declared.requests.Request.TheVariants.{Check}
use Rattle.commands.specs.Doing.{HasStopped}
use Rattle.commands.specs.declared.fault.Fault.{Fault}
use Rattle.file_check.specs.Files.{IsVerdictIn}
use Rattle.commands.proofs.Stopping.{passed_on}
use Rattle.check_commands.proofs.CheckedFiles.{changed_since, is_of_files, some_summed, unchecked}
use Rattle.check_commands.proofs.Pictured.{told_there}
use Rattle.check_commands.proofs.check.answer_files.Goals as goal

pub returns-in-Err-clause-fault : goal.returns-in-Err-clause-fault
returns-in-Err-clause-fault g c =
    let w = g.H.Host.world c.args.host.now in
    let r = c.args.request.now in
    subst (λ (fault : Fault). HasStopped w w (Check r) fault) (sym c.check_fault.ensures)
    (unchecked w r _ _ _ _ _ _ c.requires.session c.requires.object c.requires.certificate c.in-Err.fault c.in-Err.ensures.untold c.in-Err.ensures.fault)

pub returns-in_err-see_files-clause-fault : goal.returns-in_err-see_files-clause-fault
returns-in_err-see_files-clause-fault g c =
    let w = g.H.Host.world c.args.host.now in
    let r = c.args.request.now in
    let fault = c.in_err-see_files.field-0.0 in
    passed_on c.from_residual.result fault _ c.from_residual.ensures.1
    (changed_since w r _ _ _ _ _ _ c.requires.session c.requires.object c.requires.certificate fault c.in_err-see_files.ensures)

pub answer_verdict-requires-clause-summed : goal.answer_verdict-requires-clause-summed
answer_verdict-requires-clause-summed g c =
    some_summed c.args.request.now.identity c.in_ok-verdict.verdict c.in_ok-verdict.ensures.some

pub returns-clause-ok : goal.returns-clause-ok
returns-clause-ok g c =
    let w = g.H.Host.world c.args.host.now in
    let r = c.args.request.now in
    let verdict = c.in_ok-verdict.verdict in
    let held = is_of_files w r _ _ _ _ _ _ c.requires.session c.requires.object c.requires.certificate (λ x o text. IsVerdictIn r.identity x o text c.in_ok-verdict.verdict)
    (λ x o text sx so st. c.in_ok-verdict.ensures.verdict x o text (c.in-Ok.ensures.checked x o text sx so st)) in
    let told = c.in_ok-answer_verdict in
    told_there w.files r verdict told.field-0 held c.in_ok-verdict.ensures.some told.ensures.text told.ensures.status told.ensures.picture
